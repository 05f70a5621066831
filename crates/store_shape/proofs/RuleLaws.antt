-- Tests of each element of a list, and what they tell of an array's places.
use mathlib.Core.Path.{◌≡◌, refl, sym, ap, ◌∙◌}
use mathlib.Core.Bool.{Bool, true, ◌&&◌, and-true, and_assoc}
use mathlib.Core.List.{List, [], ◌∷◌}
use Prim.Native.Nat.{ℕ, ◌+◌, ◌-◌, ◌≤◌, ◌<◌}
use native.Mathlib.Omega.{arith}
use lib.Dec.{eqb, ltb}
use borrow.Rule.Slice.PartMut.{mid_of}
use lib.ListN.{length, get_or, take, drop, length-drop}
use Rattle.std.specs.List.{fold, list_all}
use Rattle.std.proofs.lemmas.List.Recursion.{and_at, and_from_places}
use Rattle.std.proofs.lemmas.List.{get_or-take, get_or-drop, length-take-le}
use Rattle.store_shape.specs.Rules.{EachBelow, ZeroFrom}
use Rattle.base.specs.Tells.{Tells, Each}
use Rattle.base.proofs.TellLaws.{tells_true, tells_same, tells_eq, tells_lt}

-- ---- a test of each element of a list

-- many at a time, from a on
fold_all : {X : Type 0} (p : X → Bool) (a : Bool) (xs : List X) → fold (λ ok x. ok && p x) a xs ≡ a && list_all p xs
fold_all p a [] = sym (and-true a)
fold_all p a (x ∷ xs) = fold_all p (a && p x) xs ∙ and_assoc a (p x) (list_all p xs)

pub fold_each : {X : Type 0} (p : X → Bool) (xs : List X) → fold (λ ok x. ok && p x) true xs ≡ list_all p xs
fold_each p xs = fold_all p true xs

tells_all : {X : Type 0} (p : X → Bool) (P : ℕ → Type 0) (xs : List X) (d : X) → ((i : ℕ) → i < length xs → Tells (P i) (p (get_or xs i d)))
    → Tells (Each P (length xs)) (list_all p xs)
tells_all p P xs d t = record {
  holds = λ e i l. (t i l).holds (and_at (list_all p) p refl (λ x xs. refl) xs i d l e);
  fails = λ e q. cc (and_from_places (list_all p) p refl (λ x xs. refl) xs d (λ i l. tells_true (t i l) (q i l)));
}

-- what the test of an array's places from k on tells; m is the array's length
pub zero_tells : (l : List ℕ) (k m : ℕ) → m ≡ length l → k ≤ m → {r : Bool} → r ≡ list_all (λ x. eqb x 0) (mid_of k (m - k) l) → Tells (ZeroFrom l k) r
zero_tells l k m z h e =
    rw e
    (tells_same
    (λ q i g w.
    let j : k + (i - k) ≡ i = omega arith in
    ap (λ (x : ℕ). get_or l x 0) (sym j) ∙ sym (at (i - k) (omega arith)) ∙ q (i - k) (omega (arith, size)))
    (λ q i g. at i (omega (arith, size)) ∙ q (k + i) (omega (arith, size)) (omega arith))
    (tells_all (λ x. eqb x 0) (λ i. get_or (mid_of k (m - k) l) i 0 ≡ 0) (mid_of k (m - k) l) 0 (λ i g. tells_eq (get_or (mid_of k (m - k) l) i 0) 0)))
  where
    size : length (mid_of k (m - k) l) ≡ m - k
    size = length-take-le (m - k) (drop k l) (omega (arith, length-drop k l))

    at : (i : ℕ) → i < m - k → get_or (mid_of k (m - k) l) i 0 ≡ get_or l (k + i) 0
    at i g = get_or-take (m - k) (drop k l) i 0 g ∙ get_or-drop k l i 0

-- what the test of its first n places tells
pub below_tells : (l : List ℕ) (m n : ℕ) → n ≤ length l → {r : Bool} → r ≡ list_all (λ x. ltb x m) (take n l) → Tells (EachBelow l m n) r
below_tells l m n h e =
    let z : length (take n l) ≡ n = length-take-le n l h in
    rw e
    (tells_same
    (λ q i g. rw get_or-take at (q i (omega arith)))
    (λ q i g. let w : i < n = omega arith in rw get_or-take (q i w))
    (tells_all (λ x. ltb x m) (λ i. get_or (take n l) i 0 < m) (take n l) 0 (λ i g. tells_lt (get_or (take n l) i 0) m)))
