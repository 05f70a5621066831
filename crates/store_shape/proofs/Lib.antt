-- Laws of the shape test.
--   RuleLaws    tests of each element of a list
--   BitLaws     the set of names
--   ShapeLaws   the rules together are the shape
--   RangeLaws   what `all` over the numbers below n tells
pub mod RuleLaws
pub mod BitLaws
pub mod ShapeLaws
pub mod RangeLaws
