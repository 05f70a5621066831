-- Answers written for an input.
pub mod Console
