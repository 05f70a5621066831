-- What class promises: refusals 1 and 4 in that order; else the number of the node's class and how many nodes it has, both fixed by
-- `ClassOf`. The workspace always comes back as it was.
use Rattle.std.specs.Prelude.{◌≡◌, Bool, true, false, ℕ, length, ltb, Result, Ok, Err}
use Rattle.graph.specs.State.{State}
use Rattle.solve_classes.specs.Members.{ClassOf}
use Rattle.unifier.specs.Views.{state_of, Valid}
use Rattle.unifier.specs.declared.Workspace.{Workspace}
use Rattle.solve_classes.specs.declared.Figures.{Figures}
use Rattle.refusals.specs.declared.Refusal.{Refusal}
use Rattle.refusals.specs.declared.Refusal.TheVariants.{NotAWorkspace, UnknownNode}
use Rattle.unifier.specs.declared.Outcome.{Outcome}

-- the class of a known node
abbrev pub ClassIs : State → ℕ → Result Figures Refusal → Type 0
ClassIs s u (Ok k) = ClassOf s u k.number k.size
ClassIs s u (Err r) = ⊥

-- whether the node is known
abbrev pub ClassReplies : Bool → State → ℕ → Result Figures Refusal → Type 0
ClassReplies true s u r = ClassIs s u r
ClassReplies false s u r = r ≡ Err UnknownNode

pub record Classifies (w : Workspace) (u : ℕ) (r : Outcome Figures) : Type 0 where
  pub refuses : (Valid w → ⊥) → r.reply ≡ Err NotAWorkspace
  pub replies : Valid w → ClassReplies (ltb u (length (state_of w).nodes)) (state_of w) u r.reply
  pub workspace : r.workspace ≡ w
