-- Laws of an input's orders.
pub mod SessionLaws
pub mod TellsLaws
pub mod LeftLaws
pub mod StepLaws
pub mod TranscriptLaws
pub mod DecimalLaws
pub mod Free
