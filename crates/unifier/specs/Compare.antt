-- What compare promises: refusals 1, 5 and 4 in that order; else same exactly when the two nodes stand in the closure of the held
-- equations, below (v below u) and above (u below v) exactly when the quotient leads down, apart otherwise, each but the last with
-- a proof. The workspace always comes back as it was.
--   Stands     how two nodes stand, in the closure of s
--   StandsAs   an answer that is no refusal says how they stand
--   Compares   the whole promise
use Rattle.std.specs.Prelude.{◌≡◌, ◌&&◌, cond, List, ℕ, length, ltb, Result, Ok, Err}
use Rattle.std.proofs.Math.Option.{Option, none, some}
use Rattle.graph.specs.Limits.{buffer_bytes}
use Rattle.graph.specs.State.{State}
use Rattle.graph.specs.Closure.{Same, Below}
use Rattle.graph.specs.Goals.{same_goal, below_goal}
use Rattle.proof_lines.specs.Proof.{ProofIn}
use Rattle.unifier.specs.Views.{state_of, Valid}
use Rattle.unifier.specs.declared.Workspace.{Workspace}
use Rattle.refusals.specs.Numbers.{numbered}
use Rattle.refusals.specs.declared.Refusal.{Refusal}
use Rattle.refusals.specs.declared.Refusal.TheVariants.{NotAWorkspace}
use Rattle.unifier_respond.specs.declared.Standing.{Standing}
use Rattle.unifier_respond.specs.declared.Standing.TheVariants as says
use Rattle.unifier.specs.declared.Outcome.{Outcome}

-- the first refusal that the two lists and the buffer's length decide
abbrev pub refusal_of : State → ℕ → ℕ → ℕ → Option ℕ
refusal_of s u v room = cond (ltb room buffer_bytes) (some 5) (cond (ltb u (length s.nodes) && ltb v (length s.nodes)) none (some 4))

pub data Stands (s : State) (u v : ℕ) (before after : List ℕ) : Standing → Type 0 where
  same : {n : ℕ} → Same s u v → ProofIn s (same_goal u v) n before after → Stands s u v before after (says.Same n)
  below : {n : ℕ} → (Same s u v → ⊥) → Below s u v → ProofIn s (below_goal u v) n before after → Stands s u v before after (says.Below n)
  above : {n : ℕ} → (Same s u v → ⊥) → (Below s u v → ⊥) → Below s v u → ProofIn s (below_goal v u) n before after → Stands s u v before after (says.Above n)
  apart : (Same s u v → ⊥) → (Below s u v → ⊥) → (Below s v u → ⊥) → after ≡ before → Stands s u v before after says.Apart

-- a refusal leaves the bytes
abbrev pub StandsAs : State → ℕ → ℕ → List ℕ → List ℕ → Result Standing Refusal → Type 0
StandsAs s u v before after (Ok r) = Stands s u v before after r
StandsAs s u v before after (Err k) = ⊥

abbrev pub Replies : Option ℕ → State → ℕ → ℕ → List ℕ → List ℕ → Result Standing Refusal → Type 0
Replies none s u v before after r = StandsAs s u v before after r
Replies (some k) s u v before after r = (r ≡ Err (numbered k)) × (after ≡ before)

pub record Compares (w : Workspace) (u v : ℕ) (before after : List ℕ) (r : Outcome Standing) : Type 0 where
  pub refuses : (Valid w → ⊥) → (r.reply ≡ Err NotAWorkspace) × (after ≡ before)
  pub replies : Valid w → Replies (refusal_of (state_of w) u v (length before)) (state_of w) u v before after r.reply
  pub workspace : r.workspace ≡ w
