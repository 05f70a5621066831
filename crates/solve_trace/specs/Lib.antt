-- Traces of merges, and the steps that extend them.
pub mod Trace
pub mod Nodes
pub mod Steps
