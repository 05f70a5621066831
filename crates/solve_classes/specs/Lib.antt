-- Class tables, the closure that one holds, runs of merges, and the members of a class.
pub mod Table
pub mod Exact
pub mod Merges
pub mod Members
pub mod ClassExamples
