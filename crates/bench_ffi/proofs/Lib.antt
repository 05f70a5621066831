-- Laws of the loops and of the trace.
pub mod MapLaws
pub mod PlacedLaws
