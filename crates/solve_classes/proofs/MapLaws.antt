-- A loop that maps f over a list in place, from the front: what it has done once it has come to i.
use mathlib.Core.Path.{◌≡◌, refl, ◌∙◌, ap}
use mathlib.Core.List.{List}
use Prim.Native.Nat.{ℕ, ◌+◌, ◌≤◌, ◌<◌}
use native.Mathlib.Omega.{arith}
use lib.ListN.{length, get_or, set, length-set}
use lib.Seq.{get_or-set_same, get_or-set_other}
use borrow.Author.Count.{below_more}

pub record Mapped (f : ℕ → ℕ) (t : List ℕ) (i : ℕ) (out : List ℕ) : Type 0 where
  pub size : length out ≡ length t
  pub done : (k : ℕ) → k < i → get_or out k 0 ≡ f (get_or t k 0)
  pub rest : (k : ℕ) → i ≤ k → get_or out k 0 ≡ get_or t k 0

module _ (f : ℕ → ℕ) (t : List ℕ) where
  pub mapped_none : Mapped f t 0 t
  mapped_none = record { size = refl; done = λ k h. absurd (omega arith); rest = λ k h. refl }

  -- the element at i is stored as f has it
  pub mapped_set : (i v : ℕ) (out : List ℕ) → i < length t → Mapped f t i out → v ≡ f (get_or out i 0) → Mapped f t (i + 1) (set out i v)
  mapped_set i v out h m e =
      record {
        size = length-set out i v ∙ m.size;
        done =
            below_more (λ k. get_or (set out i v) k 0 ≡ f (get_or t k 0)) i
            (λ k l. get_or-set_other out i k v 0 (λ q. omega (arith, q)) ∙ m.done k l)
            (get_or-set_same out i v 0 (omega (arith, m.size)) ∙ e ∙ ap f (m.rest i (omega arith)));
        rest = λ k l. get_or-set_other out i k v 0 (λ q. omega (arith, q)) ∙ m.rest k (omega arith);
      }
