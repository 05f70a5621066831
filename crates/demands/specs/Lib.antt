-- The three demands, about the functions' own contracts.
pub mod Calls
pub mod History
pub mod Tied
pub mod Demand1
pub mod Demand2
