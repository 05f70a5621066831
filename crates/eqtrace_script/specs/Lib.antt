-- An input as a script.
pub mod Script
