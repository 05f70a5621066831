-- The arrays as lists, their shape, what is done to them, and heads of groups of nodes.
pub mod Views
pub mod Shape
pub mod Operations
pub mod Heads
