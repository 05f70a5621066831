-- Laws of what is written for an input.
pub mod WrittenLaws
