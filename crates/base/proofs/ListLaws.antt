-- Lookups in lists: what is found, and where.
use mathlib.Core.Path.{◌≡◌, refl, ap}
use mathlib.Core.Logic.{◌⊎◌, inl, inr, ⊎_elim}
use mathlib.Core.List.{List, [], ◌∷◌, ◌++◌}
use mathlib.Core.Option.{some}
use Prim.Native.Nat.{ℕ, zero, suc, ◌<◌, zero-le, suc-le-suc}
use native.Mathlib.Nat.{le_of_suc-le-suc, not-suc-le-zero}
use native.Mathlib.Omega.{arith}
use lib.ListN.{length, get_elem?, take}

module _ {A : Type 0} where
  -- what is found stands within the list
  pub found_lt : (l : List A) (i : ℕ) (a : A) → get_elem? l i ≡ some a → i < length l
  found_lt [] i a h = cc
  found_lt (x ∷ xs) zero a h = suc-le-suc zero-le
  found_lt (x ∷ xs) (suc i) a h = suc-le-suc (found_lt xs i a h)

  -- within the list something is found
  pub lt_found : (l : List A) (i : ℕ) → i < length l → (a : A) × (get_elem? l i ≡ some a)
  lt_found [] i k = absurd (not-suc-le-zero k)
  lt_found (x ∷ xs) zero k = (x, refl)
  lt_found (x ∷ xs) (suc i) k = lt_found xs i (le_of_suc-le-suc k)

  -- what is found stays found when the list gets longer
  pub found_append : (l m : List A) (i : ℕ) (a : A) → get_elem? l i ≡ some a → get_elem? (l ++ m) i ≡ some a
  found_append [] m i a h = cc
  found_append (x ∷ xs) m zero a h = h
  found_append (x ∷ xs) m (suc i) a h = found_append xs m i a h

  -- the element put at the end is found there
  pub found_last : (l : List A) (n : ℕ) (a : A) → length l ≡ n → get_elem? (l ++ (a ∷ [])) n ≡ some a
  found_last [] zero a e = refl
  found_last [] (suc n) a e = absurd (omega arith)
  found_last (x ∷ l) zero a e = absurd (omega arith)
  found_last (x ∷ l) (suc n) a e = found_last l n a (omega arith)

  -- what is found in a list with one element more
  pub found_snoc : (l : List A) (x : A) (i : ℕ) (a : A) → get_elem? (l ++ (x ∷ [])) i ≡ some a → (get_elem? l i ≡ some a) ⊎ ((i ≡ length l) × (x ≡ a))
  found_snoc [] x zero a h = inr (refl, cc)
  found_snoc [] x (suc i) a h = cc
  found_snoc (y ∷ l) x zero a h = inl h
  found_snoc (y ∷ l) x (suc i) a h = ⊎_elim (λ p. inl p) (λ p. inr (ap suc p.0, p.1)) (found_snoc l x i a h)

  pub found_take : (k : ℕ) (l : List A) (i : ℕ) (a : A) → get_elem? (take k l) i ≡ some a → get_elem? l i ≡ some a
  found_take zero l i a h = cc
  found_take (suc k) [] i a h = cc
  found_take (suc k) (x ∷ xs) zero a h = h
  found_take (suc k) (x ∷ xs) (suc i) a h = found_take k xs i a h
