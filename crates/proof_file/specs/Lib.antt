-- The proof file, what writing and reading one promise, and that they are inverse.
pub mod File
pub mod Promises
pub mod RoundTrip
