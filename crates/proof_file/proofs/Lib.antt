-- Laws of the proof file.
pub mod FileLaws
pub mod Free
