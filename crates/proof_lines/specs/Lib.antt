-- The 8-byte line, and proofs made of lines.
pub mod Codec
pub mod Reading
pub mod Proof
