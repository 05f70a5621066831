-- Laws of class tables.
--   TableLaws    an entry is a node's number
--   MapLaws      a loop that maps an array in place
--   MergeLaws    what joining two classes does
--   CountLaws    the number of classes, and of merges
--   SetLaws      sets of numbers
--   MemberLaws   a class's members
--   ClassExamples  worked examples of the class reply
pub mod TableLaws
pub mod MapLaws
pub mod MergeLaws
pub mod CountLaws
pub mod SetLaws
pub mod MemberLaws
pub mod ClassExamples
