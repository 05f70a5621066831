-- Answers and parts as numbers.
pub mod Numbers
pub mod Parts
