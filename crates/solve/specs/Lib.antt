-- What the solver's contracts cite.
pub mod Decided
