-- What the reader promises, and that it reads whole lines alone.
pub mod Read
pub mod Whole
