-- Laws of the search downward.
--   ReachLaws   one step down; the search's start and end
--   SearchLaws  what the search says of a state whose closure the table is; cycles
pub mod ReachLaws
pub mod SearchLaws
