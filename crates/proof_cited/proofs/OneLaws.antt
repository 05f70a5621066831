-- How many entries are true.
use mathlib.Core.Path.{◌≡◌, refl}
use mathlib.Core.Bool.{Bool, true, false}
use mathlib.Core.List.{List, [], ◌∷◌}
use Prim.Native.Nat.{ℕ, zero, suc, ◌≤◌}
use native.Mathlib.Omega.{arith}
use lib.ListN.{take, get_or, set}
use Rattle.proof_cited.specs.Marks.{trues}

pub trues_longer : (x y : ℕ) (l : List Bool) → x ≤ y → trues (take x l) ≤ trues (take y l)
trues_longer zero y l h = omega arith
trues_longer (suc x) zero l h = absurd (omega arith)
trues_longer (suc x) (suc y) [] h = omega arith
trues_longer (suc x) (suc y) (a ∷ l) h = grind (arith, trues_longer x y l (omega arith))

-- an entry that is true counts
pub trues_next : (x : ℕ) (l : List Bool) → get_or l x false ≡ true → suc (trues (take x l)) ≤ trues (take (suc x) l)
trues_next x [] e = cc
trues_next zero (a ∷ l) e = rw e (omega arith)
trues_next (suc x) (a ∷ l) e = grind (arith, trues_next x l e)

pub trues_part : (x : ℕ) (l : List Bool) → trues (take x l) ≤ trues l
trues_part zero l = omega arith
trues_part (suc x) [] = omega arith
trues_part (suc x) (a ∷ l) = grind (arith, trues_part x l)

-- a store of true adds at most one
pub trues_set : (l : List Bool) (f : ℕ) → trues (set l f true) ≤ suc (trues l)
trues_set [] f = omega arith
trues_set (a ∷ l) zero = grind arith
trues_set (a ∷ l) (suc f) = grind (arith, trues_set l f)

pub trues_blank : (l : List Bool) → ((x : ℕ) → get_or l x false ≡ false) → trues l ≡ 0
trues_blank [] z = refl
trues_blank (a ∷ l) z = rw (z 0) (trues_blank l (λ x. z (suc x)))
