-- General laws.
--   BoolLaws    tests
--   ListLaws    lookups in lists
--   TabLaws     lists read off a function
--   TellLaws    replies that tell a fact
--   SumLaws     sums over the numbers below n
pub mod BoolLaws
pub mod ListLaws
pub mod TabLaws
pub mod TellLaws
pub mod SumLaws
