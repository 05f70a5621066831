-- Sums that agree, and sums that differ at one place.
use mathlib.Core.Path.{◌≡◌, refl}
use mathlib.Core.Logic.{⊎_elim}
use Prim.Native.Nat.{ℕ, zero, suc, ◌+◌, ◌<◌}
use native.Mathlib.Nat.{le_of_suc-le-suc, eq-or-lt_of_le}
use native.Mathlib.Omega.{arith}
use Rattle.base.specs.Sum.{sum_to}

module _ (f g : ℕ → ℕ) where
  pub sum_agree : (n : ℕ) → ((i : ℕ) → i < n → f i ≡ g i) → sum_to f n ≡ sum_to g n
  unfolding sum_to
  sum_agree zero h = refl
  sum_agree (suc n) h = omega (arith, sum_agree n (λ i l. h i (omega arith)), h n (omega arith))

  -- f is one more than g at i, and equal elsewhere
  pub sum_one : (n i : ℕ) → i < n → f i ≡ g i + 1 → ((k : ℕ) → k < n → (k ≡ i → ⊥) → f k ≡ g k) → sum_to f n ≡ sum_to g n + 1
  unfolding sum_to
  sum_one zero i l e h = absurd (omega arith)
  sum_one (suc n) i l e h =
      ⊎_elim
      (λ q.
      let a : f n ≡ g n + 1 = rw (← q) e in
      omega (arith, a, sum_agree n (λ k b. h k (omega arith) (λ z. omega (arith, z, q)))))
      (λ q. omega (arith, sum_one n i q e (λ k b. h k (omega arith)), h n (omega arith) (λ z. omega (arith, z, q))))
      (eq-or-lt_of_le (le_of_suc-le-suc l))
