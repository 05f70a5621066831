-- Laws of entries, and of traces trimmed to a goal.
--   EntryLaws   what an entry says, as the arrays have it; one trace makes one table
--   TrimLaws    entries that stand make a trace; entries dropped one by one
pub mod EntryLaws
pub mod TrimLaws
