-- What one line claims.
pub mod Claims
