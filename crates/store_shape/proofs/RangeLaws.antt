-- What `all` over the numbers below n tells.
use mathlib.Core.Path.{◌≡◌, sym, subst, ◌∙◌}
use mathlib.Core.Bool.{Bool, true, false}
use Prim.Native.Nat.{ℕ, ◌<◌}
use native.Mathlib.Omega.{arith}
use lib.ListN.{length, get_or}
use Rattle.std.specs.Bool.{MatchBool}
use Rattle.std.specs.List.{AllWithin, HoldsAt, range_with_len}
use Rattle.std.proofs.lemmas.List.FromFn.{length-range_with_len, get_or-range_with_len}
use Rattle.base.specs.Tells.{Tells, Each}
use Rattle.base.proofs.TellLaws.{tells_yes, tells_not}

module _ (P : ℕ → Type 0) (n : ℕ) where
  at : (i : ℕ) → i < n → get_or (range_with_len 0 n) i 0 ≡ i
  at i l = get_or-range_with_len 0 n i 0 l ∙ omega arith

  pub all_tells : (r : Bool) → MatchBool r (AllWithin P (range_with_len 0 n) 0 (length (range_with_len 0 n))) ((k : ℕ) × (k < length (range_with_len 0 n)) × HoldsAt (λ y. P y → ⊥) (range_with_len 0 n) k)
      → Tells (Each P n) r
  all_tells true h = tells_yes (λ i l. subst P (at i l) (h i 0 (omega arith) (omega (arith, length-range_with_len 0 n))))
  all_tells false h =
      let l : h.0 < n = omega (arith, h.1, length-range_with_len 0 n) in
      tells_not (λ q. h.2 0 (subst P (sym (at h.0 l)) (q h.0 l)))
