-- Laws of orders as bytes.
pub mod WordLaws
pub mod LetterLaws
pub mod InputLaws
