-- Laws of text put into a buffer.
pub mod PutLaws
pub mod DigitLaws
