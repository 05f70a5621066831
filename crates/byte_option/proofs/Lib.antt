-- Laws of tables of options.
pub mod TableLaws
