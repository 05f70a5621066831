-- What the closure's contracts cite.
pub mod Rounds
pub mod Settled
