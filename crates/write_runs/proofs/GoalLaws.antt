-- Lines that conclude what shows a goal are a proof of it; and which claims show which goals.
use mathlib.Core.Path.{◌≡◌, refl}
use mathlib.Core.Bool.{Bool, true, false, not}
use mathlib.Core.List.{List}
use Prim.Native.Nat.{ℕ, ◌≤◌}
use borrow.Author.Tests.{eq-eqb}
use Rattle.graph.specs.State.{functor, State, NodeAt, EqualLabels}
use Rattle.graph.specs.Lines.{Claim, same, below, Functor, equal_labels}
use Rattle.graph.specs.Goals.{Goal, clash_goal, cycle_goal, same_goal, below_goal, shows}
use Rattle.graph.proofs.LookupLaws.{labels_equal}
use Rattle.proof_lines.specs.Proof.{Kept, Concludes, ProofIn}

pub proof : (s : State) {n : ℕ} {before after : List ℕ} {c : Claim} → 1 ≤ n → n ≤ 8192 → Kept n before after → Concludes s c n after
    → (g : Goal) → shows s.nodes g c ≡ true → ProofIn s g n before after
proof s h few kept e g q = record { some = h; few = few; passes = rw (e, q); kept = kept }

module _ (s : State) where
  pub shows_same : (u v : ℕ) → shows s.nodes (same_goal u v) (same u v) ≡ true
  shows_same u v = rw (eq-eqb u u refl, eq-eqb v v refl)

  pub shows_below : (u v : ℕ) → shows s.nodes (below_goal u v) (below u v) ≡ true
  shows_below u v = rw (eq-eqb u u refl, eq-eqb v v refl)

  pub shows_cycle : (u : ℕ) → shows s.nodes cycle_goal (below u u) ≡ true
  shows_cycle u = eq-eqb u u refl

  pub shows_clash : (u v f g : ℕ) (cs ds : List ℕ) → NodeAt s u (functor f cs) → NodeAt s v (functor g ds) → (EqualLabels f g → ⊥)
      → shows s.nodes clash_goal (same u v) ≡ true
  shows_clash u v f g cs ds p q d = rw (p, q) (differ (record { symbol = f; children = cs }) (record { symbol = g; children = ds }) d)
    where
      differ : (k m : Functor) → (EqualLabels k.symbol m.symbol → ⊥) → not (equal_labels k m) ≡ true
      differ k m e = go (equal_labels k m) refl
        where
          go : (b : Bool) → equal_labels k m ≡ b → not b ≡ true
          go true h = absurd (e (labels_equal k m h))
          go false h = refl
