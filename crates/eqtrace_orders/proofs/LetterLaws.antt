-- A line read by its letter and the numbers after it.
use Rattle.std.proofs.Common.{◌≡◌, ℕ, ◌-◌, ◌≤◌, List, [], ◌∷◌, length, take, drop, get_or, Bool, true, false, cond, eqb, refl, sym, ap, ◌∙◌, arith}
use Rattle.std.specs.Prelude.{Some, None}
use Rattle.std.proofs.Math.Option.{Option, none, some}
use Rattle.std.proofs.lemmas.List.{length-take, take-take, take_rest}
use borrow.Author.Tests.{ne_eqb, eqb-true}
use Rattle.bounded_list.specs.Bounded.{Bounded, holding}
use Rattle.graph.specs.Lines.{try}
use Rattle.eqtrace_orders.specs.Grammar.{on_first, split, numbers_of, by_letter, words_as, order_of, functor}
use Rattle.eqtrace_orders.specs.declared.Order.TheVariants.{Functor}
use Rattle.eqtrace_orders.specs.Parse.{order_found, words_found, six_of, Parses}

-- one letter
pub letter_alone : (x : ℕ) → order_of (x ∷ []) ≡ by_letter x []
unfolding order_of
letter_alone x = go (eqb x 32) refl
  where
    go : (b : Bool) → eqb x 32 ≡ b → words_as (cond b ([] ∷ split 32 []) (on_first x (split 32 []))) ≡ by_letter x []
    go true e = let z : x ≡ 32 = eqb-true x 32 e in rw z refl
    go false e = refl

-- a space is no letter
by_space : (o : Option (List ℕ)) → try o (by_letter 32) ≡ none
by_space none = refl
by_space (some []) = refl
by_space (some (n ∷ l)) = refl

-- one letter, a space, and words
letter_space : (x : ℕ) (l : List ℕ) → order_of (x ∷ (32 ∷ l)) ≡ try (numbers_of (split 32 l)) (by_letter x)
unfolding order_of
letter_space x l = go (eqb x 32) refl
  where
    go : (b : Bool) → eqb x 32 ≡ b → words_as (cond b ([] ∷ ([] ∷ split 32 l)) (on_first x ([] ∷ split 32 l))) ≡ try (numbers_of (split 32 l)) (by_letter x)
    go true e = let z : x ≡ 32 = eqb-true x 32 e in rw z (sym (by_space (numbers_of (split 32 l))))
    go false e = refl

-- a first word of two letters or more
long_word : (x y : ℕ) (ws : List (List ℕ)) (b : Bool) → words_as (cond b ([] ∷ on_first y ws) (on_first x (on_first y ws))) ≡ none
long_word x y ws true = refl
long_word x y [] false = refl
long_word x y (w ∷ ws) false = refl

letters : (x y : ℕ) (l : List ℕ) → (y ≡ 32 → ⊥) → order_of (x ∷ (y ∷ l)) ≡ none
unfolding order_of
letters x y l n = rw (ne_eqb y 32 n, long_word x y (split 32 l) (eqb x 32))

take_two : (l : List ℕ) → take 2 (take 2 l) ≡ take 2 l
take_two l = take-take 2 2 l (omega arith)

few : (n : ℕ) (l : List ℕ) → length (take n l) ≤ n
few n l = rw length-take (omega arith)

-- the first six numbers tell the order
sixth : (x : ℕ) (ns : List ℕ) → order_found (by_letter x (take 6 ns)) ≡ order_found (by_letter x ns)
sixth x [] = refl
sixth x (a ∷ []) = refl
sixth x (a ∷ (b ∷ [])) = refl
sixth x (a ∷ (b ∷ (c ∷ []))) = refl
sixth x (a ∷ (b ∷ (c ∷ (d ∷ ns)))) = go (eqb x 86) (eqb x 70) (eqb x 69) (eqb x 87) (eqb x 81)
  where
    go : (v f e w q : Bool)
        → order_found (cond v none (cond f (some (functor a (b ∷ (c ∷ (d ∷ take 2 ns))))) (cond e none (cond w none (cond q none none)))))
        ≡ order_found (cond v none (cond f (some (functor a (b ∷ (c ∷ (d ∷ ns))))) (cond e none (cond w none (cond q none none)))))
    go true f e w q = refl
    go false true e w q = ap (λ (l : List ℕ). Some (Functor a (holding (b ∷ (c ∷ (d ∷ l))) 0))) (take_two ns)
    go false false true w q = refl
    go false false false true q = refl
    go false false false false true = refl
    go false false false false false = refl

-- ---- a line

-- one byte
pub lone : (l : List ℕ) → length l ≡ 1 → order_of l ≡ by_letter (get_or l 0 0) []
lone [] n = absurd (omega arith)
lone (x ∷ []) n = letter_alone x
lone (x ∷ (y ∷ l)) n = absurd (omega arith)

pub spaced_line : (l : List ℕ) → 2 ≤ length l → get_or l 1 0 ≡ 32 → order_of l ≡ try (numbers_of (split 32 (drop 2 l))) (by_letter (get_or l 0 0))
spaced_line [] n e = absurd (omega arith)
spaced_line (x ∷ []) n e = absurd (omega arith)
spaced_line (x ∷ (y ∷ l)) n e = ap (λ (z : ℕ). order_of (x ∷ (z ∷ l))) e ∙ letter_space x l

pub no_letter : (l : List ℕ) → (length l ≡ 1 → ⊥) → (2 ≤ length l → get_or l 1 0 ≡ 32 → ⊥) → order_of l ≡ none
unfolding order_of
no_letter [] a b = refl
no_letter (x ∷ []) a b = absurd (a (omega arith))
no_letter (x ∷ (y ∷ l)) a b = letters x y l (b (omega arith))

-- a letter, a space and words, of which the first six numbers are kept
module _ (l : List ℕ) (n : 2 ≤ length l) (e : get_or l 1 0 ≡ 32) where
  -- the part from the third byte on
  part : take (length l - 2) (drop 2 l) ≡ drop 2 l
  part = take_rest l 2

  pub words_bad : words_found (take (length l - 2) (drop 2 l)) ≡ None → Parses l None
  words_bad q = rw (spaced_line l n e) (go (numbers_of (split 32 (drop 2 l))) (rw part at q))
    where
      go : (o : Option (List ℕ)) → six_of o ≡ None → None ≡ order_found (try o (by_letter (get_or l 0 0)))
      go none q = refl
      go (some ns) q = cc

  pub words_read : (v : Bounded ℕ) → words_found (take (length l - 2) (drop 2 l)) ≡ Some v → (length v.items ≤ 6) × Parses l (order_found (by_letter (get_or l 0 0) v.items))
  words_read v q = rw (spaced_line l n e) (go (numbers_of (split 32 (drop 2 l))) (rw part at q))
    where
      go : (o : Option (List ℕ)) → six_of o ≡ Some v → (length v.items ≤ 6) × (order_found (by_letter (get_or l 0 0) v.items) ≡ order_found (try o (by_letter (get_or l 0 0))))
      go none q = cc
      go (some all) q =
          let y : v ≡ holding (take 6 all) 0 = cc in
          let z : v.items ≡ take 6 all = ap (λ (x : Bounded ℕ). x.items) y in
          rw z (few 6 all, sixth (get_or l 0 0) all)
