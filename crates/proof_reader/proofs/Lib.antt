-- Laws of the reader.
pub mod ReadLaws
pub mod Free
