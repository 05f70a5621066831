-- Laws of scripts.
pub mod ScriptLaws
