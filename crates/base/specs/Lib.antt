-- General definitions.
--   Tab     the list of a function's first values
--   Tells   what a test's reply tells
--   Sum     sums over the numbers below n
pub mod Tab
pub mod Tells
pub mod Sum
