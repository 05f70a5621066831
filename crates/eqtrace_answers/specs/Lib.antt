-- Answers as text.
pub mod Text
pub mod Puts
