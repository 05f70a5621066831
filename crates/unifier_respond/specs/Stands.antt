-- How two nodes stand in the closure of solved equations, with the proof in a lent buffer.
--   Known            two known nodes of solved equations
--   StandingProved   the four cases
use Rattle.std.specs.Prelude.{◌≡◌, List, ℕ, ◌<◌}
use Rattle.graph.specs.State.{State}
use Rattle.graph.specs.Closure.{Same, Below}
use Rattle.graph.specs.Goals.{same_goal, below_goal}
use Rattle.proof_lines.specs.Proof.{ProofIn}
use Rattle.store.specs.Views.{state_from}
use Rattle.store.specs.Shape.{Shape}
use Rattle.store.specs.declared.Terms.{Terms}
use Rattle.store.specs.declared.Equations.{Equations}
use Rattle.solve_trace.specs.declared.Entry.{Entry}
use Rattle.solve.specs.Decided.{Resumable}
use Rattle.unifier_respond.specs.declared.Standing.{Standing}
use Rattle.unifier_respond.specs.declared.Standing.TheVariants as stands

pub record Known (t : Terms) (e : Equations) (u v : ℕ) (table : List ℕ) (es : List Entry) : Type 0 where
  pub shape : Shape t e
  pub going : Resumable (state_from t e) table es
  pub left_known : u < t.count
  pub right_known : v < t.count

abbrev pub StandingProved : State → ℕ → ℕ → List ℕ → List ℕ → Standing → Type 0
StandingProved s u v before after (stands.Same n) = Same s u v × ProofIn s (same_goal u v) n before after
StandingProved s u v before after (stands.Below n) = (Same s u v → ⊥) × (Below s u v × ProofIn s (below_goal u v) n before after)
StandingProved s u v before after (stands.Above n) = (Same s u v → ⊥) × ((Below s u v → ⊥) × (Below s v u × ProofIn s (below_goal v u) n before after))
StandingProved s u v before after stands.Apart = (Same s u v → ⊥) × ((Below s u v → ⊥) × ((Below s v u → ⊥) × (after ≡ before)))
