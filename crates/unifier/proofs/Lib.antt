-- Laws of the calls.
pub mod PackedLaws
pub mod Laws
pub mod CheckLaws
pub mod AskLaws
pub mod ClassLaws
pub mod EquateLaws
pub mod CompareLaws
pub mod Free
