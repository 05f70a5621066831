-- A pen, claims on paper, and what each run of lines adds.
pub mod Pens
pub mod Written
pub mod Runs
