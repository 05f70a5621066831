-- The names that a proof's last line rests on.
pub mod Cited
pub mod Marks
