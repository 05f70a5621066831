-- The orders of an input by steps: the first, and those of the rest.
use mathlib.Core.Path.{◌≡◌, refl, sym, ap, ap₂, ◌∙◌}
use mathlib.Core.Bool.{Bool, true, false, cond}
use mathlib.Core.List.{List, [], ◌∷◌}
use Prim.Native.Nat.{ℕ, suc, ◌+◌, ◌-◌, ◌≤◌, ◌<◌}
use native.Mathlib.Numerals.{add-one}
use native.Mathlib.Omega.{arith}
use lib.ListN.{length, get_or, take, drop, drop_of_length-le}
use lib.Seq.{drop-drop}
use Rattle.std.proofs.lemmas.List.{drop_more}
use lib.Dec.{eqb}
use Rattle.eqtrace_orders.specs.Grammar.{on_first, split, drop_last, orders_in}
use Rattle.eqtrace_orders.specs.Input.{first_to, first_line, EndsAt}

-- ---- parts

-- the parts after the first
abbrev after_part : ℕ → List ℕ → List (List ℕ)
after_part k [] = []
after_part k (x ∷ xs) = split k xs

-- cut at the byte k
split_part : (k : ℕ) (l : List ℕ) → split k l ≡ first_to k l ∷ after_part k (drop (length (first_to k l)) l)
split_part k [] = refl
split_part k (x ∷ xs) = go (eqb x k) (split_part k xs)
  where
    go : (b : Bool) → split k xs ≡ first_to k xs ∷ after_part k (drop (length (first_to k xs)) xs)
        → cond b ([] ∷ split k xs) (on_first x (split k xs)) ≡ cond b [] (x ∷ first_to k xs) ∷ after_part k (drop (length (cond b [] (x ∷ first_to k xs))) (x ∷ xs))
    go true e = refl
    go false e = ap (on_first x) e

-- ---- the orders

pub first_is_taken : (l : List ℕ) → take (length (first_line l)) l ≡ first_line l
first_is_taken [] = refl
first_is_taken (x ∷ xs) = go (eqb x 10) (first_is_taken xs)
  where
    go : (b : Bool) → take (length (first_line xs)) xs ≡ first_line xs → take (length (cond b [] (x ∷ first_line xs))) (x ∷ xs) ≡ cond b [] (x ∷ first_line xs)
    go true e = refl
    go false e = ap (λ (r : List ℕ). x ∷ r) e

pub orders_none : orders_in [] ≡ []
unfolding orders_in
orders_none = refl

-- without a line break the whole is one order
whole : (l : List ℕ) → drop (length (first_line l)) l ≡ [] → first_line l ≡ l
whole [] e = refl
whole (x ∷ xs) e = go (eqb x 10) (whole xs) e
  where
    go : (b : Bool) → (drop (length (first_line xs)) xs ≡ [] → first_line xs ≡ xs) → drop (length (cond b [] (x ∷ first_line xs))) (x ∷ xs) ≡ [] → cond b [] (x ∷ first_line xs) ≡ x ∷ xs
    go true f e = cc
    go false f e = ap (λ (r : List ℕ). x ∷ r) (f e)

-- parts are never none
parts : (f : List ℕ) (l : List ℕ) → drop_last (f ∷ split 10 l) ≡ f ∷ drop_last (split 10 l)
parts f l = go (split 10 l) (first_line l) (after_part 10 (drop (length (first_line l)) l)) (split_part 10 l)
  where
    go : (p : List (List ℕ)) (w : List ℕ) (ws : List (List ℕ)) → p ≡ w ∷ ws → drop_last (f ∷ p) ≡ f ∷ drop_last p
    go p w ws e = rw e

pub orders_some : (x : ℕ) (l : List ℕ) → orders_in (x ∷ l) ≡ first_line (x ∷ l) ∷ orders_in (drop (suc (length (first_line (x ∷ l)))) (x ∷ l))
unfolding orders_in
orders_some x l = ap drop_last (split_part 10 (x ∷ l)) ∙ go (drop (length (first_line (x ∷ l))) (x ∷ l)) refl
  where
    go : (r : List ℕ) → drop (length (first_line (x ∷ l))) (x ∷ l) ≡ r
        → drop_last (first_line (x ∷ l) ∷ after_part 10 r) ≡ first_line (x ∷ l) ∷ drop_last (split 10 (drop (suc (length (first_line (x ∷ l)))) (x ∷ l)))
    go [] e =
        let w : first_line (x ∷ l) ≡ x ∷ l = whole (x ∷ l) e in
        let n : length (x ∷ l) ≤ suc (length (first_line (x ∷ l))) = omega (arith, ap length w) in
        let d : drop (suc (length (first_line (x ∷ l)))) (x ∷ l) ≡ [] = drop_of_length-le (x ∷ l) n in
        rw (d, w)
    go (y ∷ r) e =
        let d : drop (suc (length (first_line (x ∷ l)))) (x ∷ l) ≡ r =
        ap (λ (k : ℕ). drop k (x ∷ l)) (sym (add-one (length (first_line (x ∷ l))))) ∙ sym (drop-drop 1 (length (first_line (x ∷ l))) (x ∷ l)) ∙ ap (drop 1) e in
        parts (first_line (x ∷ l)) r ∙ ap (λ (q : List ℕ). first_line (x ∷ l) ∷ drop_last (split 10 q)) (sym d)

-- a step from a place of the input: the order there, and the next place
pub orders_at : (input : List ℕ) (at end : ℕ) → at < length input → EndsAt input at end
    → orders_in (drop at input) ≡ take (end - at) (drop at input) ∷ orders_in (drop (end + 1) input)
orders_at input at end h e =
    let k : end - at ≡ length (first_line (drop at input)) = omega (arith, e.end_at) in
    let d : drop (suc (length (first_line (drop at input)))) (drop at input) ≡ drop (end + 1) input =
    drop-drop (suc (length (first_line (drop at input)))) at input ∙ ap (λ (n : ℕ). drop n input) (let q : at + suc (length (first_line (drop at input))) ≡ end + 1 = omega (arith, e.end_at) in q) in
    let c : drop at input ≡ get_or input at 0 ∷ drop (at + 1) input = drop_more input at 0 h in
    let s : orders_in (drop at input) ≡ first_line (drop at input) ∷ orders_in (drop (suc (length (first_line (drop at input)))) (drop at input)) =
    rw c (orders_some (get_or input at 0) (drop (at + 1) input)) in
    s ∙ ap₂ (λ (x : List ℕ) (r : List (List ℕ)). x ∷ r) (sym (ap (λ (n : ℕ). take n (drop at input)) k ∙ first_is_taken (drop at input))) (ap orders_in d)

pub orders_end : (input : List ℕ) (at : ℕ) → length input ≤ at → orders_in (drop at input) ≡ []
orders_end input at h = ap orders_in (drop_of_length-le input h) ∙ orders_none
