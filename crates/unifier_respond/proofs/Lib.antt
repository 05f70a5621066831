-- Laws of the proofs and the comparison.
--   ShowLaws    from what the writer promises of lines to proofs of goals
--   FoundLaws   what the solver found, as a proof of it asks
--   StandLaws   how two nodes stand, from the class table and the search downward
pub mod ShowLaws
pub mod FoundLaws
pub mod StandLaws
