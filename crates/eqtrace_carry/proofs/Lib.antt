-- Laws of one order carried out.
pub mod CarryLaws
pub mod FiveLaws
pub mod OrderLaws
