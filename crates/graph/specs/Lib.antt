-- The definitions of column unification: what a reader must believe.
pub mod Limits
pub mod State
pub mod Closure
pub mod Solution
pub mod Verdict
pub mod Lines
pub mod Goals
pub mod Book
pub mod Examples
