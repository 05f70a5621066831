-- Laws of the writer.
--   EntryLaws    what an entry of a trace says to the writer
--   RetraceLaws  what each entry adds to the lines, and all of them
--   ShapeLaws    arrays of the right shape describe the state that they hold
pub mod EntryLaws
pub mod RetraceLaws
pub mod ShapeLaws
