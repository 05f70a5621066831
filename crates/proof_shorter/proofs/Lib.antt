-- Laws of the choice between two proofs.
pub mod ChoiceLaws
pub mod Free
