-- Eight bytes stored one after the other make a line.
use mathlib.Core.Path.{◌≡◌, refl, ◌∙◌}
use mathlib.Core.List.{List, [], ◌∷◌}
use Prim.Native.Nat.{ℕ, zero, suc, ◌+◌, ◌*◌, ◌/◌, ◌%◌, ◌≤◌, ◌<◌}
use native.Mathlib.Omega.{arith}
use lib.ListN.{length, get_or, set, length-set}
use lib.Seq.{sets, length-sets, get_or-set_same, get_or-set_other}
use Rattle.proof_lines.specs.Codec.{two, line_from, line, Put}

before : (vs l : List ℕ) (i j : ℕ) → j < i → get_or (sets l i vs) j 0 ≡ get_or l j 0
before [] l i j h = refl
before (v ∷ vs) l i j h = before vs (set l i v) (suc i) j (omega arith) ∙ get_or-set_other l i j v 0 (λ q. omega (arith, q))

past : (vs l : List ℕ) (i j : ℕ) → i + length vs ≤ j → get_or (sets l i vs) j 0 ≡ get_or l j 0
past [] l i j h = refl
past (v ∷ vs) l i j h = past vs (set l i v) (suc i) j (omega arith) ∙ get_or-set_other l i j v 0 (λ q. omega (arith, q))

at : (vs l : List ℕ) (i j k : ℕ) → i + length vs ≤ length l → j < length vs → k ≡ i + j → get_or (sets l i vs) k 0 ≡ get_or vs j 0
at [] l i j k h g e = absurd (omega arith)
at (v ∷ vs) l i zero k h g e =
    let q : k ≡ i = omega arith in
    rw q (before vs (set l i v) (suc i) i (omega arith) ∙ get_or-set_same l i v 0 (omega arith))
at (v ∷ vs) l i (suc j) k h g e = at vs (set l i v) (suc i) j k (rw length-set (omega arith)) (omega arith) (omega arith)

module _ (l : List ℕ) (o r p f g : ℕ) where
  bytes : List ℕ
  bytes = r ∷ p ∷ (f / 256 % 256) ∷ (f % 256) ∷ (g / 256 % 256) ∷ (g % 256) ∷ 0 ∷ 0 ∷ []

  -- what the eight stores leave
  abbrev pub stored : List ℕ
  stored =
      set (set (set (set (set (set (set (set l o r) (o + 1) p) (o + 2) (f / 256 % 256)) (o + 3) (f % 256)) (o + 4) (g / 256 % 256)) (o + 5) (g % 256)) (o + 6) 0) (o + 7) 0

  is_sets : stored ≡ sets l o bytes
  unfolding bytes
  is_sets =
      let e1 : o + 1 ≡ suc o = omega arith in
      let e2 : o + 2 ≡ suc (suc o) = omega arith in
      let e3 : o + 3 ≡ suc (suc (suc o)) = omega arith in
      let e4 : o + 4 ≡ suc (suc (suc (suc o))) = omega arith in
      let e5 : o + 5 ≡ suc (suc (suc (suc (suc o)))) = omega arith in
      let e6 : o + 6 ≡ suc (suc (suc (suc (suc (suc o))))) = omega arith in
      let e7 : o + 7 ≡ suc (suc (suc (suc (suc (suc (suc o)))))) = omega arith in
      cc

  module _ (h : o + 8 ≤ length l) (small : f < 65536) (small' : g < 65536) where
    byte : (j k : ℕ) → j < 8 → k ≡ o + j → get_or (sets l o bytes) k 0 ≡ get_or bytes j 0
    unfolding bytes
    byte j k g e = at bytes l o j k h g e

    whole : line_from (sets l o bytes) o ≡ line r p f g
    unfolding bytes
    whole =
        let q0 : get_or (sets l o bytes) o 0 ≡ r = byte 0 o (omega arith) (omega arith) in
        let q1 : get_or (sets l o bytes) (o + 1) 0 ≡ p = byte 1 (o + 1) (omega arith) (omega arith) in
        let q2 : two (sets l o bytes) (o + 2) ≡ f =
        (rw (byte 2 (o + 2) (omega arith) (omega arith), byte 3 (o + 2 + 1) (omega arith) (omega arith)) (omega arith)) in
        let q4 : two (sets l o bytes) (o + 4) ≡ g =
        (rw (byte 4 (o + 4) (omega arith) (omega arith), byte 5 (o + 4 + 1) (omega arith) (omega arith)) (omega arith)) in
        let q6 : two (sets l o bytes) (o + 6) ≡ 0 =
        (rw (byte 6 (o + 6) (omega arith) (omega arith), byte 7 (o + 6 + 1) (omega arith) (omega arith))) in
        cc

pub put : (l : List ℕ) (n r p f g : ℕ) → 8 * n + 8 ≤ length l → f < 65536 → g < 65536 → Put l n (line r p f g) (stored l (8 * n) r p f g)
unfolding bytes
put l n r p f g h small small' =
    let b = bytes l (8 * n) r p f g in
    rw (is_sets l (8 * n) r p f g)
    record {
      size = length-sets l (8 * n) b;
      at = whole l (8 * n) r p f g h small small';
      before = λ i k. before b l (8 * n) i (omega arith);
      past = λ i k. past b l (8 * n) i (omega arith);
    }
