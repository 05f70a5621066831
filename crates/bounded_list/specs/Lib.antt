-- What a contract sees of a bounded list.
pub mod Bounded
