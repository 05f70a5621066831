-- The workspace, its replies, and what each call promises.
pub mod Views
pub mod Replies
pub mod Answers
pub mod Equate
pub mod Compare
pub mod Check
pub mod Class
pub mod Inner
