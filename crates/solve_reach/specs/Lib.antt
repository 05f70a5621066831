-- Reachability on the classes of a table.
pub mod Reach
pub mod Search
