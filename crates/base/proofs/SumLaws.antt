-- Sums over the numbers below n.
use mathlib.Core.Path.{◌≡◌, refl, sym, ◌∙◌, ap}
use mathlib.Core.Logic.{⊎_elim}
use Prim.Native.Nat.{ℕ, zero, suc, ◌+◌, ◌≤◌, ◌<◌}
use native.Mathlib.Nat.{le_of_suc-le-suc, eq-or-lt_of_le, eq-zero-or-pos}
use native.Mathlib.Numerals.{add-one}
use native.Mathlib.Omega.{arith}
use Rattle.base.specs.Sum.{sum_to}

pub sum_none : (f : ℕ → ℕ) → sum_to f 0 ≡ 0
unfolding sum_to
sum_none f = refl

pub sum_more : (f : ℕ → ℕ) (n : ℕ) → sum_to f (n + 1) ≡ sum_to f n + f n
unfolding sum_to
sum_more f n = rw add-one

module _ (f g : ℕ → ℕ) where
  pub sum_le : (n : ℕ) → ((i : ℕ) → i < n → g i ≤ f i) → sum_to g n ≤ sum_to f n
  unfolding sum_to
  sum_le zero h = omega arith
  sum_le (suc n) h = omega (arith, sum_le n (λ i l. h i (omega arith)), h n (omega arith))

  -- where g is nowhere above f and its sum not below, the two agree
  pub sum_same : (n : ℕ) → ((i : ℕ) → i < n → g i ≤ f i) → sum_to f n ≤ sum_to g n → (i : ℕ) → i < n → f i ≡ g i
  unfolding sum_to
  sum_same zero h l i k = absurd (omega arith)
  sum_same (suc n) h l i k =
      let m : sum_to g n ≤ sum_to f n = sum_le n (λ i l. h i (omega arith)) in
      let b : g n ≤ f n = h n (omega arith) in
      let e : f n ≡ g n = omega arith in
      ⊎_elim
      (λ q. ap f q ∙ e ∙ sym (ap g q))
      (λ q. sum_same n (λ i l. h i (omega arith)) (omega arith) i q)
      (eq-or-lt_of_le (le_of_suc-le-suc k))

-- no summand is above the sum
pub sum_at : (f : ℕ → ℕ) (n i : ℕ) → i < n → f i ≤ sum_to f n
unfolding sum_to
sum_at f zero i h = absurd (omega arith)
sum_at f (suc n) i h =
    ⊎_elim
    (λ q. let e : f i ≡ f n = ap f q in omega arith)
    (λ q. omega (arith, sum_at f n i q))
    (eq-or-lt_of_le (le_of_suc-le-suc h))

-- summands of at most 1 sum to at most their number
pub sum_most : (f : ℕ → ℕ) (n : ℕ) → ((i : ℕ) → i < n → f i ≤ 1) → sum_to f n ≤ n
unfolding sum_to
sum_most f zero h = omega arith
sum_most f (suc n) h = omega (arith, sum_most f n (λ i l. h i (omega arith)), h n (omega arith))

-- a sum that is not 0 has a summand that is not
pub sum_some : (f : ℕ → ℕ) (n : ℕ) → 0 < sum_to f n → (i : ℕ) × ((i < n) × (0 < f i))
unfolding sum_to
sum_some f zero h = absurd (omega arith)
sum_some f (suc n) h =
    ⊎_elim
    (λ e. let w = sum_some f n (omega (arith, e)) in (w.0, (omega (arith, w.1.0), w.1.1)))
    (λ l. (n, (omega arith, l)))
    (eq-zero-or-pos (f n))
