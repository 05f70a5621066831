-- Two numbers in one give both back.
--   pairing_unique   one number, one pair
use Rattle.std.proofs.Common.{◌≡◌, ℕ, ◌+◌, ◌*◌, ◌≤◌, ◌<◌, arith, sym}
use Rattle.std.proofs.lemmas.Nat.{mul-le}
use Rattle.solve_heights.specs.Pairing.{pairing}

-- the sum of the first pair isn't below the other's
not_below : (s t a b : ℕ) → a ≤ s → s * s + a ≡ t * t + b → s < t → ⊥
not_below s t a b l e h =
    let m : (s + 1) * (s + 1) ≤ t * t = mul-le (s + 1) (s + 1) t t (omega (arith, h)) (omega (arith, h)) in
    omega (arith, m, l, e)

pub pairing_unique : (x y z w : ℕ) → pairing x y ≡ pairing z w → (x ≡ z) × (y ≡ w)
unfolding pairing
pairing_unique x y z w e =
    let a = not_below (x + y) (z + w) x z (omega arith) e in
    let b = not_below (z + w) (x + y) z x (omega arith) (sym e) in
    let s : x + y ≡ z + w = omega (arith, a, b) in
    let f : x ≡ z = omega (arith, rw s at e) in
    (f, omega (arith, s, f))
