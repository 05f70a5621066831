-- What check promises: an equation. Refusals 1; 4 where the offered equation or the goal names an unknown node; 6 where the offered
-- name is held; then the checker's own answer to the bytes (`answer_to`: 11, 12 with the line, 13, or passed), on the state of held
-- and offered equations together.
--   goal_below   of n nodes, each that the goal names is known
--   offer_new    the offered name isn't held
--   check_reply  the reply to a workspace, from its two lists
--   Checks       the whole promise
use Rattle.std.specs.Prelude.{◌≡◌, Bool, true, not, ◌&&◌, cond, List, ℕ, length}
use Rattle.std.proofs.Math.Option.{Option, none, some}
use Rattle.graph.specs.State.{State, Equation, name_held, with_offer}
use Rattle.graph.specs.Goals.{Goal, clash_goal, cycle_goal, same_goal, below_goal, Judgement, refused}
use Rattle.proof_rules.specs.Rules.{both_below, offer_below}
use Rattle.proof_check.specs.Answers.{judged_as, answer_to}
use Rattle.unifier.specs.Views.{state_of, Valid}
use Rattle.unifier.specs.declared.Workspace.{Workspace}
use Rattle.unifier.specs.declared.Outcome.{Outcome}

abbrev pub goal_below : ℕ → Goal → Bool
goal_below n clash_goal = true
goal_below n cycle_goal = true
goal_below n (same_goal u v) = both_below n u v
goal_below n (below_goal u v) = both_below n u v

abbrev pub offer_new : State → Option Equation → Bool
offer_new s none = true
offer_new s (some e) = not (name_held e.name s.equations)

unfoldable pub check_reply : State → Option Equation → Goal → List ℕ → Judgement
check_reply s o g bytes =
    cond (offer_below (length s.nodes) o && goal_below (length s.nodes) g)
    (cond (offer_new s o) (answer_to (with_offer s o) g bytes) (refused 6))
    (refused 4)

pub record Checks (w : Workspace) (o : Option Equation) (g : Goal) (bytes : List ℕ) (r : Outcome (Unit {0})) : Type 0 where
  pub refuses : (Valid w → ⊥) → judged_as r.reply ≡ refused 1
  pub replies : Valid w → judged_as r.reply ≡ check_reply (state_of w) o g bytes
  pub workspace : r.workspace ≡ w
