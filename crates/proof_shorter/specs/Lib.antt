-- The shorter of two proofs, what the calls promise, and that what is handed back passes.
pub mod Choice
pub mod Promises
pub mod Best
