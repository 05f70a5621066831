-- An input's orders carried out.
pub mod Program
pub mod Transcript
pub mod Steps
