-- Heights of the classes of a table.
pub mod Nodes
pub mod Peel
pub mod Passes
pub mod Pairing
