-- Laws of the examination.
pub mod AloneLaws
pub mod ExamineLaws
