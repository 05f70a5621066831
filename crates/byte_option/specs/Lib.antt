-- An option as a byte, and back.
pub mod Bytes
