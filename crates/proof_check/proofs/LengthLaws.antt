-- Lengths that refusal 11 passes.
use mathlib.Core.Path.{◌≡◌, refl}
use mathlib.Core.Bool.{Bool, true, false, not, ◌||◌}
use mathlib.Core.Logic.{⊎_elim}
use Prim.Native.Nat.{ℕ, ◌+◌, ◌*◌, ◌/◌, ◌%◌, ◌≤◌}
use native.Mathlib.Nat.{div-add-mod', eq-zero-or-pos}
use native.Mathlib.Omega.{arith}
use lib.Dec.{eqb, ltb}
use borrow.Author.Tests.{eqb-true, eqb-false, eq-eqb, ne_eqb, ltb-false, le-ltb}
use Rattle.proof_check.specs.Answers.{bad_length}

-- a length that refusal 11 passes: n whole lines, from 1 to 8,192
pub record Whole (size : ℕ) : Type 0 where
  pub some : 1 ≤ size / 8
  pub few : size / 8 ≤ 8192
  pub whole : 8 * (size / 8) ≡ size

pub length_whole : (size : ℕ) → bad_length size ≡ false → Whole size
length_whole size e = go (eqb size 0) refl (ltb 65536 size) refl (eqb (size % 8) 0) refl e
  where
    go : (a : Bool) → eqb size 0 ≡ a → (b : Bool) → ltb 65536 size ≡ b → (c : Bool) → eqb (size % 8) 0 ≡ c → a || (b || not c) ≡ false → Whole size
    go true p b q c r e = cc
    go false p true q c r e = cc
    go false p false q false r e = cc
    go false p false q true r e =
        let m : size % 8 ≡ 0 = eqb-true (size % 8) 0 r in
        let d : size / 8 * 8 + size % 8 ≡ size = div-add-mod' size 8 in
        let l : size ≤ 65536 = ltb-false 65536 size q in
        let n : size ≡ 0 → ⊥ = eqb-false size 0 p in
        record {
          some = ⊎_elim (λ z. absurd (n (omega arith))) (λ z. z) (eq-zero-or-pos (size / 8));
          few = omega arith;
          whole = omega arith;
        }

pub whole_length : (n : ℕ) → 1 ≤ n → n ≤ 8192 → bad_length (8 * n) ≡ false
whole_length n a b =
    let m : (8 * n) % 8 ≡ 0 = omega arith in
    rw (ne_eqb (8 * n) 0 (λ z. omega arith), le-ltb 65536 (8 * n) (omega arith), eq-eqb _ _ m)
