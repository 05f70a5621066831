-- The words of an order, read one after the other as numbers.
use mathlib.Core.Bool.{Bool, true, false}
use Rattle.std.proofs.Common.{◌≡◌, ℕ, zero, suc, ◌+◌, ◌≤◌, ◌<◌, List, [], ◌∷◌, ◌++◌, length, take, drop, get_or, cond, eqb, refl, sym, ap, ◌∙◌, append_assoc, arith}
use Rattle.std.specs.Prelude.{Some, None}
use Rattle.std.specs.List.{slice_split, onto_first}
use Rattle.std.proofs.Math.Option as math
use Rattle.std.proofs.lemmas.List.{at_drop_more, at_drop_all}
use Rattle.bounded_list.specs.Bounded.{Bounded, holding}
use Rattle.graph.specs.Lines.{try}
use Rattle.eqtrace_orders.specs.Grammar.{on_first, split, number_in, numbers_of}
use Rattle.eqtrace_orders.specs.Parse.{handed_on, six_of, words_found}
use mathlib.Core.List.{append-nil}

onto : (x : ℕ) (parts : List (List ℕ)) → onto_first x parts ≡ on_first x parts
onto x [] = refl
onto x (p ∷ ps) = refl

-- words are cut as std cuts a slice
pub split_slice : (at : ℕ) (l : List ℕ) → slice_split (λ b. eqb b at) l ≡ split at l
split_slice at [] = refl
split_slice at (x ∷ xs) = rw (split_slice at xs) (ap (λ (r : List (List ℕ)). cond (eqb x at) ([] ∷ split at xs) r) (onto x (split at xs)))

-- what stands past the first n of a list doesn't come among the first n of a longer one
take_twice : (n : ℕ) (l more : List ℕ) → take n (take n l ++ more) ≡ take n (l ++ more)
take_twice zero l more = refl
take_twice (suc n) [] more = refl
take_twice (suc n) (x ∷ l) more = ap (λ (r : List ℕ). x ∷ r) (take_twice n l more)

-- the numbers seen, before those of the words to come
abbrev pub prefixed : List ℕ → math.Option (List ℕ) → math.Option (List ℕ)
prefixed seen o = try o (λ ns. math.some (seen ++ ns))

-- what `handed_on` says of a number
pub found_none : (o : math.Option ℕ) → handed_on o ≡ None → o ≡ math.none
found_none math.none e = refl
found_none (math.some x) e = cc

pub found_some : (o : math.Option ℕ) (x : ℕ) → handed_on o ≡ Some x → o ≡ math.some x
found_some math.none x e = cc
found_some (math.some y) x e = cc

-- the first k words are numbers, of which the first six are kept
pub record Reading (words : List (List ℕ)) (k : ℕ) (kept : List ℕ) : Type 0 where
  pub seen : List ℕ
  pub six : kept ≡ take 6 seen
  pub rest : numbers_of words ≡ prefixed seen (numbers_of (drop k words))

module _ (words : List (List ℕ)) (k : ℕ) (kept : List ℕ) (R : Reading words k kept) where
  pub reading_all : length words ≤ k → numbers_of words ≡ math.some R.seen
  reading_all h = R.rest ∙ ap (prefixed R.seen) (at_drop_all numbers_of words k h) ∙ ap math.some (append-nil R.seen)

  module _ (w : List ℕ) (h : k < length words) (e : w ≡ get_or words k w) where
    here : numbers_of (drop k words) ≡ numbers_of (w ∷ drop (k + 1) words)
    here = at_drop_more numbers_of words k w h ∙ ap (λ (x : List ℕ). numbers_of (x ∷ drop (k + 1) words)) (sym e)

    pub reading_bad : number_in w ≡ math.none → numbers_of words ≡ math.none
    reading_bad n = R.rest ∙ ap (prefixed R.seen) here ∙ rw n

    pub reading_more : (x : ℕ) → number_in w ≡ math.some x → (next : List ℕ) → next ≡ take 6 (kept ++ x ∷ []) → Reading words (k + 1) next
    reading_more x n next q = record {
      seen = R.seen ++ x ∷ [];
      six = q ∙ ap (λ (l : List ℕ). take 6 (l ++ x ∷ [])) R.six ∙ take_twice 6 R.seen (x ∷ []);
      rest = R.rest ∙ ap (prefixed R.seen) here ∙ rw n (go (numbers_of (drop (k + 1) words)));
    }
      where
        go : (o : math.Option (List ℕ)) → prefixed R.seen (try o (λ ns. math.some (x ∷ ns))) ≡ prefixed (R.seen ++ x ∷ []) o
        go math.none = refl
        go (math.some ns) = ap math.some (sym (append_assoc R.seen (x ∷ []) ns))

-- ---- how many

-- there is always a part
some_part : (at : ℕ) (l : List ℕ) → 1 ≤ length (split at l)
some_part at [] = omega arith
some_part at (x ∷ xs) = go (eqb x at)
  where
    onto_some : (parts : List (List ℕ)) → 1 ≤ length (on_first x parts)
    onto_some [] = omega arith
    onto_some (p ∷ ps) = omega arith

    go : (b : Bool) → 1 ≤ length (cond b ([] ∷ split at xs) (on_first x (split at xs)))
    go true = omega arith
    go false = onto_some (split at xs)

-- words that are numbers: there is one
some_words : (o : math.Option (List ℕ)) (n : math.Option ℕ) (v : Bounded ℕ) → six_of (try n (λ x. try o (λ l. math.some (x ∷ l)))) ≡ Some v → 1 ≤ length v.items
some_words o math.none v e = cc
some_words math.none (math.some x) v e = cc
some_words (math.some l) (math.some x) v e =
    let h : v ≡ holding (x ∷ take 5 l) 0 = cc in
    let z : v.items ≡ x ∷ take 5 l = ap (λ (r : Bounded ℕ). r.items) h in
    rw z (omega arith)

pub collected_some : (l : List ℕ) (v : Bounded ℕ) → words_found l ≡ Some v → 1 ≤ length v.items
collected_some l v = go (split 32 l) (some_part 32 l)
  where
    go : (ws : List (List ℕ)) → 1 ≤ length ws → six_of (numbers_of ws) ≡ Some v → 1 ≤ length v.items
    go [] n e = absurd (omega arith)
    go (w ∷ ws) n e = some_words (numbers_of ws) (number_in w) v e
