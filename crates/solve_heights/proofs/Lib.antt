-- Laws of the peel.
--   OptionLaws   a value, or none
--   CountLaws    sums that agree, and sums that differ at one place
--   SummandLaws  what one node adds to the peel's sums
--   ReleaseLaws  one visit
--   StartLaws    where the peel starts
--   EndLaws      where it ends
--   CycleLaws    where each of finitely many nodes has one below it among them, one lies below itself
--   OutcomeLaws  nothing left: a solution; something left: a cycle
--   PairingLaws  two numbers in one
pub mod OptionLaws
pub mod CountLaws
pub mod SummandLaws
pub mod ReleaseLaws
pub mod StartLaws
pub mod EndLaws
pub mod CycleLaws
pub mod OutcomeLaws
pub mod PairingLaws
