-- Laws of the arrays.
--   ViewLaws         the arrays read as lists
--   BelowLaws        all of a list's numbers below a bound
--   FindLaws         the first equation of a name
--   RemoveLaws       the first place of a name, and that place taken out
--   PutNodeLaws      one node more at the end
--   PutEquationLaws  one equation more at the end
--   PackLaws         the two views are inverse
pub mod ViewLaws
pub mod BelowLaws
pub mod FindLaws
pub mod RemoveLaws
pub mod PutNodeLaws
pub mod PutEquationLaws
pub mod PackLaws
