-- Laws of one number of children for each symbol.
--   FitLaws     the test of a symbol's number of children, one node at a time
--   HeadLaws    the rule node by node, by the heads of symbols
pub mod FitLaws
pub mod HeadLaws
