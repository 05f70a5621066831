-- Where an order ends; the line `K`; names don't make a refusal; the next place.
use mathlib.Core.Path.{◌≡◌, refl, sym, ap, ◌∙◌}
use mathlib.Core.Bool.{Bool, true, false, not, cond}
use mathlib.Core.List.{List, [], ◌∷◌}
use mathlib.Core.Option.{none}
use Rattle.std.specs.Prelude.{Some, None, position}
use Rattle.std.specs.List.{position_or_len}
use Rattle.std.proofs.lemmas.List.{length-drop}
use Prim.Native.Nat.{ℕ, suc, ◌+◌, ◌-◌, ◌≤◌, ◌<◌}
use native.Mathlib.Omega.{arith}
use lib.ListN.{length, take, drop}
use lib.Dec.{eqb, ltb}
use borrow.Author.Tests.{eqb-true, ltb-false}
use Rattle.eqtrace_orders.specs.Grammar.{order_of}
use Rattle.eqtrace_orders.specs.Input.{first_line, EndsAt}
use Rattle.eqtrace_orders.proofs.InputLaws.{first_is_taken}
use Rattle.eqtrace_answers.specs.Puts.{meant}
use Rattle.eqtrace_answers.specs.declared.Answer.{Answer as Code}
use Rattle.eqtrace_answers.specs.declared.Answer.TheVariants as says
use Rattle.eqtrace_script.specs.Script.{refuses, goes_on, next_place, is_keep}

-- the first line break, where std looks for it
line_position : (l : List ℕ) → position_or_len (λ b. eqb b 10) l ≡ length (first_line l)
line_position [] = refl
line_position (x ∷ xs) = go (eqb x 10) (line_position xs)
  where
    go : (b : Bool) → position_or_len (λ b. eqb b 10) xs ≡ length (first_line xs) → cond (not b) (1 + position_or_len (λ b. eqb b 10) xs) 0 ≡ length (cond b [] (x ∷ first_line xs))
    go true e = refl
    go false e = omega arith

line_within : (l : List ℕ) → length (first_line l) ≤ length l
line_within [] = omega arith
line_within (x ∷ xs) = go (eqb x 10) (line_within xs)
  where
    go : (b : Bool) → length (first_line xs) ≤ length xs → length (cond b [] (x ∷ first_line xs)) ≤ suc (length xs)
    go true h = omega arith
    go false h = omega arith

module _ (input : List ℕ) (at : ℕ) (h : at ≤ length input) (l : List ℕ) (e : l ≡ drop at input) where
  ends : (end : ℕ) → end ≡ at + length (first_line l) → EndsAt input at end
  ends end q = let n : length (drop at input) ≡ length input - at = length-drop at input in record { end_at = rw (← e) q; inside = omega (arith, q, ap length e, n, line_within l) }

  pub ends_break : (n : ℕ) → position (λ b. eqb b 10) l ≡ Some n → EndsAt input at (at + n)
  ends_break n q = ends (at + n) (ap (λ (k : ℕ). at + k) (go (ltb (position_or_len (λ b. eqb b 10) l) (length l)) q))
    where
      go : (b : Bool) → cond b (Some (position_or_len (λ b. eqb b 10) l)) None ≡ Some n → n ≡ length (first_line l)
      go true q = let z : position_or_len (λ b. eqb b 10) l ≡ n = cc in sym z ∙ line_position l
      go false q = cc

  pub ends_all : position (λ b. eqb b 10) l ≡ None → EndsAt input at (length input)
  ends_all q = ends (length input) (go (ltb (position_or_len (λ b. eqb b 10) l) (length l)) refl q)
    where
      go : (b : Bool) → ltb (position_or_len (λ b. eqb b 10) l) (length l) ≡ b → cond b (Some (position_or_len (λ b. eqb b 10) l)) None ≡ None → length input ≡ at + length (first_line l)
      go true t q = cc
      go false t q = omega (arith, ltb-false _ _ t, line_position l, line_within l, ap length e, length-drop at input)

pub keep_length : (line : List ℕ) → is_keep line ≡ true → length line ≡ 1
keep_length [] e = cc
keep_length (x ∷ []) e = refl
keep_length (x ∷ (y ∷ ys)) e = cc

pub keep_unreadable : (line : List ℕ) → is_keep line ≡ true → order_of line ≡ none
unfolding order_of
keep_unreadable [] e = cc
keep_unreadable (x ∷ []) e = rw (eqb-true x 75 e)
keep_unreadable (x ∷ (y ∷ ys)) e = cc

pub first_line_lem : (input : List ℕ) (end : ℕ) → EndsAt input 0 end → take (end - 0) input ≡ first_line input
first_line_lem input end e = let k : end - 0 ≡ length (first_line input) = omega (arith, e.end_at) in ap (λ (n : ℕ). take n input) k ∙ first_is_taken input

pub refuses_meant : (a : Code) (ns : List ℕ) → refuses (meant a []) ≡ refuses (meant a ns)
refuses_meant (says.Node i) ns = refl
refuses_meant (says.Held n) ns = refl
refuses_meant (says.Gone n) ns = refl
refuses_meant says.Same ns = refl
refuses_meant says.Below ns = refl
refuses_meant says.Above ns = refl
refuses_meant says.Apart ns = refl
refuses_meant (says.Refused k) ns = refl
refuses_meant (says.Unreadable i) ns = refl

-- the next place lies behind the order's, whether it is the next line's or the end
pub place_on : (keep refusal : Bool) (at end size : ℕ) → at ≤ end → at < size → at < next_place keep refusal end size
place_on keep refusal at end size h l = go (goes_on keep refusal)
  where
    go : (b : Bool) → at < cond b (end + 1) size
    go true = omega arith
    go false = l
