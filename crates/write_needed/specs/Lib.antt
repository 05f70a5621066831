-- Entries of a trace, and the ones that a goal needs.
pub mod Entries
pub mod Trim
