-- The digits of a number, the last one first.
use mathlib.Core.Path.{◌≡◌, refl, sym, ap, ap₂, ◌∙◌}
use mathlib.Core.Bool.{Bool, true, false, cond}
use mathlib.Core.List.{List, [], ◌∷◌, ◌++◌, append_assoc, append-nil}
use Prim.Native.Nat.{ℕ, zero, suc, ◌+◌, ◌*◌, ◌/◌, ◌%◌, ◌≤◌, ◌<◌}
use native.Mathlib.Nat.{div-lt_iff_lt-mul, mod-eq_of_lt}
use native.Mathlib.Numerals.{add-one}
use native.Mathlib.Omega.{arith}
use lib.ListN.{length, set, drop, length-set, drop_of_length-le}
use lib.Seq.{drop-cons, drop-set-lt, get_or-set_same}
use lib.Dec.{ltb}
use borrow.Author.Tests.{lt-ltb, le-ltb}
use Rattle.eqtrace_answers.specs.Text.{decimal_by, decimal}
use Rattle.eqtrace_answers.specs.Puts.{DigitsShow}
use Rattle.eqtrace_answers.specs.declared.Digits.{Digits}

-- numbers of at most k + 1 digits
abbrev pub limit : ℕ → ℕ
limit zero = 10
limit (suc k) = limit k * 10

pub tenth : (x n : ℕ) → x < n * 10 → x / 10 < n
tenth x n h = let p : 0 < 10 = omega arith in (div-lt_iff_lt-mul p).1 h

fuel : (k x : ℕ) → x < limit k → decimal_by (suc k) x ≡ decimal_by k x
fuel zero x h = rw (lt-ltb x 10 h)
fuel (suc k) x h = go (ltb x 10) (fuel k (x / 10) (tenth x (limit k) h))
  where
    go : (b : Bool) → decimal_by (suc k) (x / 10) ≡ decimal_by k (x / 10)
        → cond b ((48 + x) ∷ []) (decimal_by (suc k) (x / 10) ++ ((48 + x % 10) ∷ [])) ≡ cond b ((48 + x) ∷ []) (decimal_by k (x / 10) ++ ((48 + x % 10) ∷ []))
    go true e = refl
    go false e = ap (λ (l : List ℕ). l ++ ((48 + x % 10) ∷ [])) e

decimal_more : (x : ℕ) → 10 ≤ x → x < 100000 → decimal x ≡ decimal (x / 10) ++ ((48 + x % 10) ∷ [])
unfolding decimal
decimal_more x h l = rw (le-ltb x 10 h) (ap (λ (r : List ℕ). r ++ ((48 + x % 10) ∷ [])) (sym (fuel 3 (x / 10) (tenth x 10000 l))))

decimal_one : (x : ℕ) → x < 10 → decimal x ≡ (48 + x) ∷ []
unfolding decimal
decimal_one x h = rw (lt-ltb x 10 h)

-- the digits after place k, and the number x of those before them
pub record Writing (n : ℕ) (bytes : List ℕ) (k x : ℕ) : Type 0 where
  pub size : length bytes ≡ 5
  pub place : k < 5
  pub small : x < limit k
  pub shown : decimal n ≡ decimal x ++ drop (k + 1) bytes

pub writing_none : (n : ℕ) (bytes : List ℕ) → n < 100000 → length bytes ≡ 5 → Writing n bytes 4 n
writing_none n bytes h s =
    let l : length bytes ≤ 5 = omega arith in
    let e : drop 5 bytes ≡ [] = drop_of_length-le bytes l in
    record { size = s; place = omega arith; small = h; shown = sym (ap (λ (r : List ℕ). decimal n ++ r) e ∙ append-nil (decimal n)) }

stored : (l : List ℕ) (k x : ℕ) → k < length l → drop k (set l k x) ≡ x ∷ drop (k + 1) l
stored l k x h =
    drop-cons (set l k x) k 0 (omega (arith, length-set l k x))
    ∙ ap₂ (λ (y : ℕ) (r : List ℕ). y ∷ r) (get_or-set_same l k x 0 h) (drop-set-lt (suc k) l k x (omega arith) ∙ ap (λ (i : ℕ). drop i l) (sym (add-one k)))

small_at : (k x : ℕ) → x < limit k → 10 ≤ x → 1 ≤ k
small_at zero x s h = absurd (omega arith)
small_at (suc k) x s h = omega arith

small_less : (j k x : ℕ) → j + 1 ≡ k → x < limit k → x / 10 < limit j
small_less j zero x e s = absurd (omega arith)
small_less j (suc k) x e s = let q : j ≡ k = omega arith in rw q (tenth x (limit k) s)

small_all : (k x : ℕ) → k < 5 → x < limit k → x < 100000
small_all zero x p s = omega arith
small_all (suc zero) x p s = omega arith
small_all (suc (suc zero)) x p s = omega arith
small_all (suc (suc (suc zero))) x p s = omega arith
small_all (suc (suc (suc (suc zero)))) x p s = omega arith
small_all (suc (suc (suc (suc (suc k))))) x p s = absurd (omega arith)

module _ (n : ℕ) (bytes : List ℕ) (k x : ℕ) (r : Writing n bytes k x) where
  pub writing_place : 10 ≤ x → 1 ≤ k
  writing_place h = small_at k x r.small h

  pub writing_more : 10 ≤ x → (d : ℕ) → d ≡ 48 + x % 10 → (j : ℕ) → j + 1 ≡ k → Writing n (set bytes k d) j (x / 10)
  writing_more h d q j e =
      let t : drop (j + 1) (set bytes k d) ≡ (48 + x % 10) ∷ drop (k + 1) bytes = rw (e, q) (stored bytes k (48 + x % 10) (omega (arith, r.size, r.place))) in
      record {
        size = length-set bytes k d ∙ r.size;
        place = omega (arith, r.place);
        small = small_less j k x e r.small;
        shown =
            r.shown ∙ ap (λ (l : List ℕ). l ++ drop (k + 1) bytes) (decimal_more x h (small_all k x r.place r.small))
            ∙ append_assoc (decimal (x / 10)) ((48 + x % 10) ∷ []) (drop (k + 1) bytes)
            ∙ ap (λ (l : List ℕ). decimal (x / 10) ++ l) (sym t);
      }

  pub writing_last : x < 10 → (d : ℕ) → d ≡ 48 + x % 10 → (o : Digits) → o.bytes ≡ set bytes k d → o.from ≡ k → DigitsShow n o
  writing_last h d q o b f =
      let m : x % 10 ≡ x = mod-eq_of_lt h in
      let t : drop k (set bytes k d) ≡ (48 + x) ∷ drop (k + 1) bytes = stored bytes k d (omega (arith, r.size, r.place)) ∙ ap (λ (y : ℕ). y ∷ drop (k + 1) bytes) (q ∙ ap (λ (y : ℕ). 48 + y) m) in
      record {
        size = ap length b ∙ length-set bytes k d ∙ r.size;
        start = omega (arith, f, r.place);
        digits = ap₂ (λ (i : ℕ) (l : List ℕ). drop i l) f b ∙ t ∙ sym (r.shown ∙ ap (λ (l : List ℕ). l ++ drop (k + 1) bytes) (decimal_one x h));
      }
