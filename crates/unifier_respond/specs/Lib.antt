-- What the proofs and the comparison ask and promise.
--   Shows    lines for the goals that a claim shows
--   Stands   how two nodes stand
pub mod Shows
pub mod Stands
