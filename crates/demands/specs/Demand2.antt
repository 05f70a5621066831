-- Demand 2 about the calls: what compare reports is exact and `check` passes its lines; `check` passes exactly what the rules of proof lines allow,
-- and what it passes is true of the closure.
--   SaysSame, SaysBelow, SaysAbove   what a reply reports
--   PassesCheck  the call `check`, with nothing offered, passes the lines that a report left
--   Reports      a report is exact, and proved
use Rattle.std.specs.Prelude.{◌≡◌, ◌↔◌, List, ℕ, ◌*◌, length, take, Result, Ok, Err}
use Rattle.std.proofs.Math.Option.{Option, none}
use Rattle.graph.specs.State.{Equation, with_offer}
use Rattle.graph.specs.Closure.{Same, Below}
use Rattle.graph.specs.Goals.{Goal, same_goal, below_goal, passed, Meaning, Cites}
use Rattle.proof_lines.specs.Codec.{lines_of}
use Rattle.unifier.specs.Views.{Valid, state_of}
use Rattle.unifier.specs.Compare.{refusal_of, Compares}
use Rattle.unifier.specs.Check.{check_reply, Checks}
use Rattle.unifier.specs.declared.Workspace.{Workspace}
use Rattle.refusals.specs.declared.Refusal.{Refusal}
use Rattle.unifier_respond.specs.declared.Standing.{Standing}
use Rattle.unifier_respond.specs.declared.Standing.TheVariants as says
use Rattle.unifier.specs.declared.Outcome.{Outcome}

abbrev pub SaysSame : Result Standing Refusal → Type 0
SaysSame (Ok (says.Same n)) = Unit {0}
SaysSame (Ok (says.Below n)) = ⊥
SaysSame (Ok (says.Above n)) = ⊥
SaysSame (Ok says.Apart) = ⊥
SaysSame (Err k) = ⊥

abbrev pub SaysBelow : Result Standing Refusal → Type 0
SaysBelow (Ok (says.Same n)) = ⊥
SaysBelow (Ok (says.Below n)) = Unit {0}
SaysBelow (Ok (says.Above n)) = ⊥
SaysBelow (Ok says.Apart) = ⊥
SaysBelow (Err k) = ⊥

abbrev pub SaysAbove : Result Standing Refusal → Type 0
SaysAbove (Ok (says.Same n)) = ⊥
SaysAbove (Ok (says.Below n)) = ⊥
SaysAbove (Ok (says.Above n)) = Unit {0}
SaysAbove (Ok says.Apart) = ⊥
SaysAbove (Err k) = ⊥

-- n lines at the start of the buffer, checked with the workspace as it was
abbrev pub PassesCheck : Workspace → Goal → ℕ → List ℕ → Type 0
PassesCheck w g n bytes = (r : Outcome (Unit {0})) → Checks w none g (take (8 * n) bytes) r → r.reply ≡ Ok tt

abbrev pub Proves : Workspace → ℕ → ℕ → List ℕ → Result Standing Refusal → Type 0
Proves w u v bytes (Ok (says.Same n)) = PassesCheck w (same_goal u v) n bytes
Proves w u v bytes (Ok (says.Below n)) = PassesCheck w (below_goal u v) n bytes
Proves w u v bytes (Ok (says.Above n)) = PassesCheck w (below_goal v u) n bytes
Proves w u v bytes (Ok says.Apart) = Unit {0}
Proves w u v bytes (Err k) = ⊥

pub record Reports (w : Workspace) (u v : ℕ) (after : List ℕ) (r : Result Standing Refusal) : Type 0 where
  pub same : SaysSame r ↔ Same (state_of w) u v
  pub below : SaysBelow r ↔ Below (state_of w) u v
  pub above : SaysAbove r ↔ Below (state_of w) v u
  pub proved : Proves w u v after r

pub record Demand2 : Type 0 where
  -- where compare doesn't refuse
  pub reports : (w : Workspace) (u v : ℕ) (before after : List ℕ) (r : Outcome Standing) → Valid w → refusal_of (state_of w) u v (length before) ≡ none
      → Compares w u v before after r → Reports w u v after r.reply
  -- the rules, as `check_reply` writes them
  pub exact : (w : Workspace) (o : Option Equation) (g : Goal) (bytes : List ℕ) (r : Outcome (Unit {0})) → Valid w → Checks w o g bytes r
      → (r.reply ≡ Ok tt) ↔ (check_reply (state_of w) o g bytes ≡ passed)
  -- of the closure of held and offered together, and it cites no other equation
  pub sound : (w : Workspace) (o : Option Equation) (g : Goal) (bytes : List ℕ) (r : Outcome (Unit {0})) → Valid w → Checks w o g bytes r → r.reply ≡ Ok tt
      → Meaning (with_offer (state_of w) o) g × Cites (with_offer (state_of w) o) (lines_of bytes)
