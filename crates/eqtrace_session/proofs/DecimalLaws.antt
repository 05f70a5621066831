-- What is printed of a number is a number of the grammar, so without leading zeros, and the same number.
use mathlib.Core.Path.{◌≡◌, refl, sym, ap, ◌∙◌}
use mathlib.Core.Bool.{Bool, true, false, ◌&&◌, cond}
use mathlib.Core.List.{List, [], ◌∷◌, ◌++◌}
use mathlib.Core.Option.{Option, none, some}
use Prim.Native.Nat.{ℕ, zero, suc, ◌+◌, ◌-◌, ◌*◌, ◌/◌, ◌%◌, ◌≤◌, ◌<◌}
use native.Mathlib.Nat.{div-add-mod', mod-lt}
use native.Mathlib.Omega.{arith}
use lib.Dec.{ltb, leb}
use borrow.Author.Tests.{le-leb, ne_eqb, ltb-true, ltb-false}
use Rattle.graph.specs.Lines.{try}
use Rattle.eqtrace_orders.specs.Grammar.{is_digit, digits_from, number_in}
use Rattle.eqtrace_answers.specs.Text.{decimal_by, decimal}
use Rattle.eqtrace_answers.proofs.DigitLaws.{limit}

-- one digit more
abbrev more : ℕ → ℕ → Option ℕ
more d u = cond (is_digit d && leb (u * 10 + (d - 48)) 65535) (some (u * 10 + (d - 48))) none

digits_more : (v : ℕ) (l : List ℕ) (d : ℕ) → digits_from v (l ++ (d ∷ [])) ≡ try (digits_from v l) (more d)
digits_more v [] d = refl
digits_more v (x ∷ l) d = go (is_digit x && leb (v * 10 + (x - 48)) 65535) (digits_more (v * 10 + (x - 48)) l d)
  where
    go : (b : Bool) → digits_from (v * 10 + (x - 48)) (l ++ (d ∷ [])) ≡ try (digits_from (v * 10 + (x - 48)) l) (more d)
        → cond b (digits_from (v * 10 + (x - 48)) (l ++ (d ∷ []))) none ≡ try (cond b (digits_from (v * 10 + (x - 48)) l) none) (more d)
    go true e = e
    go false e = refl

digit_read : (u x : ℕ) → x < 10 → u * 10 + x ≤ 65535 → more (48 + x) u ≡ some (u * 10 + x)
digit_read u x h l =
    let e : 48 + x - 48 ≡ x = omega arith in
    rw (e, le-leb 48 (48 + x) (omega arith), le-leb (48 + x) 57 (omega arith), le-leb (u * 10 + x) 65535 l)

one_read : (x : ℕ) → x < 10 → digits_from 0 ((48 + x) ∷ []) ≡ some x
one_read x h = let e : 0 * 10 + x ≡ x = omega arith in digit_read 0 x h (omega arith) ∙ ap some e

read : (k x : ℕ) → x < limit k → x ≤ 65535 → digits_from 0 (decimal_by k x) ≡ some x
read zero x h l = one_read x h
read (suc k) x h l = go (ltb x 10) refl (read k (x / 10) (omega arith) (let d : x / 10 * 10 + x % 10 ≡ x = div-add-mod' x 10 in omega arith))
  where
    go : (b : Bool) → ltb x 10 ≡ b → digits_from 0 (decimal_by k (x / 10)) ≡ some (x / 10) → digits_from 0 (cond b ((48 + x) ∷ []) (decimal_by k (x / 10) ++ ((48 + x % 10) ∷ []))) ≡ some x
    go true e r = one_read x (ltb-true x 10 e)
    go false e r =
        let d : x / 10 * 10 + x % 10 ≡ x = div-add-mod' x 10 in
        let m : x % 10 < 10 = mod-lt x (let p : 0 < 10 = omega arith in p) in
        digits_more 0 (decimal_by k (x / 10)) (48 + x % 10) ∙ ap (λ (o : Option ℕ). try o (more (48 + x % 10))) r ∙ digit_read (x / 10) (x % 10) m (omega (arith, d)) ∙ ap some d

-- the first digit of a number that isn't zero
record Leads (l : List ℕ) : Type 0 where
  pub first : ℕ
  pub rest : List ℕ
  pub is : l ≡ first ∷ rest
  pub some_digit : first ≡ 48 → ⊥

leads : (k x : ℕ) → 1 ≤ x → Leads (decimal_by k x)
leads zero x h = record { first = 48 + x; rest = []; is = refl; some_digit = λ e. omega (arith, e) }
leads (suc k) x h = go (ltb x 10) refl (leads k (x / 10))
  where
    go : (b : Bool) → ltb x 10 ≡ b → (1 ≤ x / 10 → Leads (decimal_by k (x / 10))) → Leads (cond b ((48 + x) ∷ []) (decimal_by k (x / 10) ++ ((48 + x % 10) ∷ [])))
    go true e f = record { first = 48 + x; rest = []; is = refl; some_digit = λ e. omega (arith, e) }
    go false e f =
        let d : x / 10 * 10 + x % 10 ≡ x = div-add-mod' x 10 in
        let m : x % 10 < 10 = mod-lt x (let p : 0 < 10 = omega arith in p) in
        let t = f (omega (arith, d, m, ltb-false x 10 e)) in
        record { first = t.first; rest = t.rest ++ ((48 + x % 10) ∷ []); is = ap (λ (l : List ℕ). l ++ ((48 + x % 10) ∷ [])) t.is; some_digit = t.some_digit }

not_zero : (l : List ℕ) → Leads l → number_in l ≡ digits_from 0 l
not_zero l t = ap number_in t.is ∙ go t.rest ∙ sym (ap (digits_from 0) t.is)
  where
    go : (r : List ℕ) → number_in (t.first ∷ r) ≡ digits_from 0 (t.first ∷ r)
    go [] = refl
    go (y ∷ r) = rw (ne_eqb t.first 48 t.some_digit)

pub decimal_read : (x : ℕ) → x ≤ 65535 → number_in (decimal x) ≡ some x
unfolding decimal
decimal_read zero h = refl
decimal_read (suc x) h = not_zero (decimal_by 4 (suc x)) (leads 4 (suc x) (omega arith)) ∙ read 4 (suc x) (omega arith) h
