-- What examining a value finds.
pub mod Examines
