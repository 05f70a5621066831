-- The checker's answers in graph's terms.
--   walked       how the code's walk over the lines ended
--   goal_of      the thing to be shown
--   judged_as    the code's answer: passed, a refusal's number, or the line of refusal 12
--   LineWithin   the line of a refusal 12 is a line of a proof
--   bad_length   refusal 11's case: 0 bytes, over 65,536, or no multiple of 8
--   answer_to    the answer to a proof's bytes: 11, then 12 with the first line that breaks its rule, then 13, or passed
use Rattle.std.specs.Prelude.{Bool, not, ◌||◌, cond, List, ℕ, ◌%◌, ◌<◌, length, eqb, ltb, Result, Ok, Err}
use Rattle.graph.specs.Limits.{buffer_bytes, line_limit}
use Rattle.graph.specs.State.{State}
use Rattle.graph.specs.Goals.{Goal, clash_goal, cycle_goal, same_goal, below_goal, Ended, ends, breaks, Judgement, passed, refused, broken_line, judge}
use Rattle.refusals.specs.declared.Refusal.{Refusal}
use Rattle.refusals.specs.declared.Refusal.TheVariants.{BrokenLine}
use Rattle.refusals.specs.Numbers.{refusal_number}
use Rattle.proof_lines.specs.Codec.{lines_of}
use Rattle.proof_rules.specs.declared.Claim.{Claim}
use Rattle.proof_rules.specs.Rules.{claim_seen}
use Rattle.proof_check.specs.declared.GoalAsked.{GoalAsked}
use Rattle.proof_check.specs.declared.GoalAsked.TheVariants.{Clash, Cycle, Same, Below}

abbrev pub walked : Result Claim ℕ → Ended
walked (Ok c) = ends (claim_seen c)
walked (Err i) = breaks i

abbrev pub goal_of : GoalAsked → Goal
goal_of Clash = clash_goal
goal_of Cycle = cycle_goal
goal_of (Same u v) = same_goal u v
goal_of (Below u v) = below_goal u v

abbrev pub refused_as : Refusal → Judgement
refused_as (BrokenLine line) = broken_line line
refused_as r = refused (refusal_number r)

abbrev pub judged_as : Result (Unit {0}) Refusal → Judgement
judged_as (Ok x) = passed
judged_as (Err r) = refused_as r

abbrev pub LineWithin : Result (Unit {0}) Refusal → Type 0
LineWithin (Ok x) = Unit {0}
LineWithin (Err (BrokenLine line)) = line < line_limit
LineWithin (Err r) = Unit {0}

abbrev pub bad_length : ℕ → Bool
bad_length n = eqb n 0 || (ltb buffer_bytes n || not (eqb (n % 8) 0))

unfoldable pub answer_to : State → Goal → List ℕ → Judgement
answer_to s g bs = cond (bad_length (length bs)) (refused 11) (judge s g (lines_of bs))
