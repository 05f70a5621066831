-- Laws of the verdict.
--   DecidedLaws  a settled closure, decided
--   VerdictLaws  each verdict just where it holds; a decided state serves an equation offered
pub mod DecidedLaws
pub mod VerdictLaws
