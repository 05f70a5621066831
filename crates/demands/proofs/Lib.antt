-- The three demands.
pub mod Decides
pub mod Demand3
pub mod Tied
pub mod Values
pub mod Demand1
pub mod Demand2
