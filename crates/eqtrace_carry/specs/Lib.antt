-- One order carried out.
pub mod Carried
pub mod Inner
