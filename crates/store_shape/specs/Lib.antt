-- The rules that the shape test goes through, and the bit set of names.
pub mod Rules
pub mod Bits
