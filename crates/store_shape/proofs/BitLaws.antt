-- A set of numbers with one number more.
use mathlib.Core.Path.{◌≡◌, refl, sym, ap, ◌∙◌}
use mathlib.Core.Bool.{Bool, true}
use mathlib.Core.Logic.{⊎_elim}
use mathlib.Core.List.{List}
use Prim.Native.Nat.{ℕ, ◌+◌, ◌*◌, ◌/◌, ◌%◌, ◌^◌, ◌<◌}
use native.Mathlib.Nat.{mod-lt, zero-div, div-add-mod', not-suc-le-zero}
use native.Mathlib.Omega.{arith}
use lib.Bits.{bit_or}
use lib.Dec.{eqb}
use mir.Syntax.{w64}
use borrow.Author.Tests.{eqb-true}
use lib.ListN.{length, get_or, set, replicate, length-set}
use lib.Seq.{get_or-set_same, get_or-set_other}
use borrow.Author.Count.{below_more}
use Rattle.std.proofs.lemmas.Bool.{cases_eq}
use Rattle.std.proofs.lemmas.Nat.Bits.{bit_at_set_same, bit_at_set_other}
use Rattle.std.proofs.lemmas.Grind.{common_steps}
use Rattle.store_shape.specs.Rules.{Distinct}
use Rattle.base.specs.Tells.{Each}
use Rattle.store_shape.specs.Bits.{bit_at, BitNoted, Marks}

-- ---- the set

-- the set with x
abbrev pub with : List ℕ → ℕ → List ℕ
with l x = set l (x / 64) (bit_or (get_or l (x / 64) 0) ((1 * 2 ^ (x % 64)) % 2 ^ 64))

module _ (l : List ℕ) (x : ℕ) (fits : x / 64 < length l) where
  pub noted : BitNoted l (with l x) x (eqb (bit_at l x) 0)
  noted = record { size = length-set l (x / 64) _; told = refl; set = own; others = other }
    where
      low : x % 64 < 64
      low = mod-lt x (omega arith)

      word : get_or (with l x) (x / 64) 0 ≡ bit_or (get_or l (x / 64) 0) ((1 * 2 ^ (x % 64)) % 2 ^ 64)
      word = get_or-set_same l (x / 64) _ 0 fits

      own : bit_at (with l x) x ≡ 1
      own = ap (λ (w : ℕ). w / 2 ^ (x % 64) % 2) word ∙ bit_at_set_same w64 (get_or l (x / 64) 0) (x % 64) low

      same_word : (y : ℕ) → y / 64 ≡ x / 64 → (y ≡ x → ⊥) → bit_at (with l x) y ≡ bit_at l y
      same_word y e d =
          let n : y % 64 ≡ x % 64 → ⊥ = λ q. d (omega (arith, div-add-mod' y 64, div-add-mod' x 64)) in
          ap (λ (i : ℕ). get_or (with l x) i 0 / 2 ^ (y % 64) % 2) e
          ∙ ap (λ (w : ℕ). w / 2 ^ (y % 64) % 2) word
          ∙ bit_at_set_other w64 (get_or l (x / 64) 0) (x % 64) low (y % 64) n
          ∙ ap (λ (i : ℕ). get_or l i 0 / 2 ^ (y % 64) % 2) (sym e)

      other : (y : ℕ) → (y ≡ x → ⊥) → bit_at (with l x) y ≡ bit_at l y
      other y d =
          ⊎_elim
          (λ e. same_word y e d)
          (λ n. ap (λ (w : ℕ). w / 2 ^ (y % 64) % 2) (get_or-set_other l (x / 64) (y / 64) _ 0 n))
          (cases_eq (y / 64) (x / 64))

-- the set of nothing
pub marks_none : (l : List ℕ) → Marks (replicate 1024 0) l 0
marks_none l = record { members = λ i h. absurd (not-suc-le-zero h); only = λ y h. empty y }
  where
    word_zero : (n i : ℕ) → ◌≡◌ {A = ℕ} (get_or (replicate n 0) i 0) 0
    word_zero n i = grind (arith, common_steps)

    empty : (y : ℕ) → bit_at (replicate 1024 0) y ≡ 0
    empty y = ap (λ (w : ℕ). w / 2 ^ (y % 64) % 2) (word_zero 1024 (y / 64)) ∙ ap (λ (w : ℕ). w % 2) (zero-div (2 ^ (y % 64)))

-- ---- the loop over a list's first numbers: all different so far, and these in the set

pub record NewTo (seen l : List ℕ) (i : ℕ) : Type 0 where
  pub marks : Marks seen l i
  pub distinct : Distinct l i

pub new_none : (seen l : List ℕ) → Marks seen l 0 → NewTo seen l 0
new_none seen l m = record { marks = m; distinct = λ i j h k. absurd (not-suc-le-zero k) }

module _ (seen next l : List ℕ) (i : ℕ) (b : Bool) (N : NewTo seen l i) (noted : BitNoted seen next (get_or l i 0) b) where
  bit_zero : b ≡ true → bit_at seen (get_or l i 0) ≡ 0
  bit_zero e = eqb-true _ _ (sym noted.told ∙ e)

  fresh : b ≡ true → (j : ℕ) → j < i → get_or l j 0 ≡ get_or l i 0 → ⊥
  fresh e j h q =
      let one : bit_at seen (get_or l j 0) ≡ 1 = N.marks.members j h in
      let same : bit_at seen (get_or l j 0) ≡ bit_at seen (get_or l i 0) = ap (bit_at seen) q in
      omega (arith, bit_zero e)

  pub new_more : b ≡ true → NewTo next l (i + 1)
  new_more e = record {
    marks = record { members = members; only = only };
    distinct = λ j k h g q. below_more (λ k. j < k → get_or l j 0 ≡ get_or l k 0 → ⊥) i (λ k p h. N.distinct j k h p) (λ h. fresh e j h) k g h q;
  }
    where
      members : Each (λ k. bit_at next (get_or l k 0) ≡ 1) (i + 1)
      members = below_more _ i (λ k p. noted.others (get_or l k 0) (fresh e k p) ∙ N.marks.members k p) noted.set

      only : (y : ℕ) → ((k : ℕ) → k < i + 1 → get_or l k 0 ≡ y → ⊥) → bit_at next y ≡ 0
      only y h = noted.others y (λ q. h i (omega arith) (sym q)) ∙ N.marks.only y (λ k g. h k (omega arith))
