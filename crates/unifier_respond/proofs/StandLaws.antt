-- How two nodes stand, from the class table and the search downward.
use mathlib.Core.Path.{◌≡◌, refl, sym, ◌∙◌}
use mathlib.Core.Bool.{Bool, true, false}
use mathlib.Core.List.{List}
use Prim.Native.Nat.{ℕ}
use Rattle.graph.specs.Closure.{Same, Below}
use Rattle.graph.specs.Goals.{same_goal, below_goal}
use Rattle.proof_lines.specs.Proof.{ProofIn}
use Rattle.store.specs.Views.{state_from}
use Rattle.store.specs.declared.Terms.{Terms}
use Rattle.store.specs.declared.Equations.{Equations}
use Rattle.store.proofs.ViewLaws.{node_in}
use Rattle.solve_classes.specs.Table.{class}
use Rattle.solve_trace.specs.declared.Entry.{Entry}
use Rattle.solve_reach.specs.declared.Search.{Search}
use Rattle.solve_reach.specs.Reach.{Reaches, Searched}
use Rattle.solve_reach.specs.Search.{Reached}
use Rattle.write_same.specs.Replay.{OneClass}
use Rattle.unifier_respond.specs.Shows.{TracedClosure}
use Rattle.unifier_respond.specs.Stands.{Known, StandingProved}
use Rattle.unifier_respond.specs.declared.Standing.TheVariants as stands
use Rattle.unifier_respond.proofs.ShowLaws.{down}

-- what the test of an option tells
pub told : {b r : Bool} → r ≡ b → r ≡ true → b ≡ true
told e h = sym e ∙ h

pub told_not : {b r : Bool} → r ≡ b → r ≡ false → b ≡ true → ⊥
told_not e h k = cc

module _ (t : Terms) (e : Equations) (u v : ℕ) (table : List ℕ) (es : List Entry) (k : Known t e u v table es) where
  pub closed_table : TracedClosure (state_from t e) es table
  closed_table = record { traced = k.going.traced; exact = k.going.exact }

  pub joined : class table u ≡ class table v → OneClass (state_from t e) es u v
  joined h = record { table = table; traced = k.going.traced; joined = h }

  not_same : (class table u ≡ class table v → ⊥) → Same (state_from t e) u v → ⊥
  not_same n s = n (k.going.exact.has s)

  pub stand_same : class table u ≡ class table v → (n : ℕ) (before after : List ℕ) → ProofIn (state_from t e) (same_goal u v) n before after
      → StandingProved (state_from t e) u v before after (stands.Same n)
  stand_same h n before after p = (k.going.exact.only u v (node_in t e u k.left_known) (node_in t e v k.right_known) h, p)

  module _ (apart : class table u ≡ class table v → ⊥) {r : Search} (R : Reached t table r u) where
    from_left : Searched (state_from t e) table r u
    from_left = down t e k.shape closed_table k.left_known R

    pub stand_below : Reaches table r v → (n : ℕ) (before after : List ℕ) → ProofIn (state_from t e) (below_goal u v) n before after
        → StandingProved (state_from t e) u v before after (stands.Below n)
    stand_below h n before after p = (not_same apart, (from_left.reached v (node_in t e v k.right_known) h, p))

    module _ (no : Reaches table r v → ⊥) {q : Search} (Q : Reached t table q v) where
      not_below : Below (state_from t e) u v → ⊥
      not_below b = no (from_left.complete v b)

      from_right : Searched (state_from t e) table q v
      from_right = down t e k.shape closed_table k.right_known Q

      pub stand_above : Reaches table q u → (n : ℕ) (before after : List ℕ) → ProofIn (state_from t e) (below_goal v u) n before after
          → StandingProved (state_from t e) u v before after (stands.Above n)
      stand_above h n before after p = (not_same apart, (not_below, (from_right.reached u (node_in t e u k.left_known) h, p)))

      pub stand_apart : (Reaches table q u → ⊥) → (before : List ℕ) → StandingProved (state_from t e) u v before before stands.Apart
      stand_apart z before = (not_same apart, (not_below, ((λ b. z (from_right.complete u b)), refl)))
