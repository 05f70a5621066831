-- Laws of the checker.
--   WalkLaws     what the walk has shown after i lines
--   LengthLaws   lengths that refusal 11 passes: 1 to 8,192 whole lines
--   GoalLaws     what two labels show of a clash
--   AnswerLaws   the answer by its tests in turn; `check_sound`: what passes is true of the closure; `proof_passes`: proved lines pass
pub mod WalkLaws
pub mod LengthLaws
pub mod GoalLaws
pub mod AnswerLaws
