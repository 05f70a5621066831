-- The first place of a name, and the first equation of that name on the list (`named` of graph's Lines).
use mathlib.Core.Path.{◌≡◌, refl}
use mathlib.Core.Option.{none, some}
use Prim.Native.Nat.{ℕ, zero, suc, ◌≤◌, ◌<◌}
use native.Mathlib.Nat.{not-suc-le-zero, le_of_suc-le-suc}
use native.Mathlib.Omega.{arith}
use borrow.Author.Tests.{eq-eqb, ne_eqb}
use Rattle.graph.specs.State.{Equation}
use Rattle.graph.specs.Lines.{named}
use Rattle.base.specs.Tab.{tab}
use Rattle.store.specs.Views.{equation_at, equations_of}
use Rattle.store.specs.Operations.{First}
use Rattle.store.specs.declared.Equations.{Equations}

module _ (n : ℕ) where
  named_at : (m k : ℕ) (f : ℕ → Equation) → k < m → (f k).name ≡ n → ((i : ℕ) → i < k → (f i).name ≡ n → ⊥) → named (tab m f) n ≡ some (f k)
  unfolding tab
  named_at zero k f h e b = absurd (not-suc-le-zero h)
  named_at (suc m) zero f h e b = rw (eq-eqb (f 0).name n e)
  named_at (suc m) (suc k) f h e b =
      rw (ne_eqb (f 0).name n (b 0 (omega arith))) (named_at m k (λ i. f (suc i)) (le_of_suc-le-suc h) e (λ i l. b (suc i) (omega arith)))

  named_not : (m : ℕ) (f : ℕ → Equation) → ((i : ℕ) → i < m → (f i).name ≡ n → ⊥) → named (tab m f) n ≡ none
  unfolding tab
  named_not zero f h = refl
  named_not (suc m) f h = rw (ne_eqb (f 0).name n (h 0 (omega arith))) (named_not m (λ i. f (suc i)) (λ i l. h (suc i) (omega arith)))

module _ (e : Equations) (n k : ℕ) (at : First e.name e.count n k) where
  pub named_first : k < e.count → named (equations_of e) n ≡ some (equation_at e k)
  unfolding equations_of
  named_first h = named_at n e.count k (equation_at e) h (at.here h) at.before

  pub named_none : e.count ≤ k → named (equations_of e) n ≡ none
  unfolding equations_of
  named_none h = named_not n e.count (equation_at e) (λ i p. at.before i (omega arith))
