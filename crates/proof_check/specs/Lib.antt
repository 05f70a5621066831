-- The checker's answers.
pub mod Answers
