-- What a decoded line says of the bytes; the whole lines of a part.
use mathlib.Core.Path.{◌≡◌, refl, ap}
use mathlib.Core.Bool.{Bool, true, false, cond}
use mathlib.Core.List.{List}
use mathlib.Core.Option.{some}
use Rattle.std.specs.Prelude.{Some, None}
use Prim.Native.Nat.{ℕ, ◌+◌, ◌*◌, ◌/◌, ◌≤◌, ◌<◌}
use native.Mathlib.Omega.{arith}
use lib.ListN.{length, get_or, get_elem?, take}
use lib.Seq.{get_or-take, length-take-le}
use lib.Dec.{ltb}
use borrow.Author.Tests.{ltb-true}
use Rattle.base.proofs.TabLaws.{tab_at, tab_get_d, tab_length, tab_same}
use Rattle.graph.specs.Lines.{Line}
use Rattle.proof_lines.specs.declared.Line.{Line as LineRead}
use Rattle.proof_lines.specs.Codec.{line_at, first_lines, lines_of}
use Rattle.proof_lines.specs.Reading.{line_seen, read_of, decoded}

pub lines_length : (bs : List ℕ) → length (lines_of bs) ≡ length bs / 8
unfolding first_lines
lines_length bs = tab_length (length bs / 8) (line_at bs)

pub lines_at : (bs : List ℕ) (i : ℕ) (d : Line) → i < length bs / 8 → get_or (lines_of bs) i d ≡ line_at bs i
unfolding first_lines
lines_at bs i d h = tab_get_d (length bs / 8) (line_at bs) i d h

pub lines_found : (bs : List ℕ) (i : ℕ) → i < length bs / 8 → get_elem? (lines_of bs) i ≡ some (line_at bs i)
unfolding first_lines
lines_found bs i h = tab_at (length bs / 8) (line_at bs) i h

-- a line that was decoded stands in the bytes
pub decoded_line : (bs : List ℕ) (i : ℕ) (l : LineRead) → decoded bs i ≡ Some l → (i < length bs / 8) × (line_seen l ≡ line_at bs i)
decoded_line bs i l e = go (ltb i (length bs / 8)) refl e
  where
    go : (b : Bool) → ltb i (length bs / 8) ≡ b → cond b (Some (read_of (line_at bs i))) None ≡ Some l → (i < length bs / 8) × (line_seen l ≡ line_at bs i)
    go true q e = let z : l ≡ read_of (line_at bs i) = cc in (ltb-true _ _ q, ap line_seen z)
    go false q e = cc

-- the first n lines are the lines of the first 8 n bytes
part_bytes : (n : ℕ) (bs : List ℕ) (k : ℕ) → 8 * k + 8 ≤ 8 * n → line_at (take (8 * n) bs) k ≡ line_at bs k
part_bytes n bs k h =
    rw (get_or-take (8 * n) bs (8 * k) 0 (omega arith), get_or-take (8 * n) bs (8 * k + 1) 0 (omega arith), get_or-take (8 * n) bs (8 * k + 2) 0 (omega arith), get_or-take (8 * n) bs (8 * k + 2 + 1) 0 (omega arith), get_or-take (8 * n) bs (8 * k + 4) 0 (omega arith), get_or-take (8 * n) bs (8 * k + 4 + 1) 0 (omega arith), get_or-take (8 * n) bs (8 * k + 6) 0 (omega arith), get_or-take (8 * n) bs (8 * k + 6 + 1) 0 (omega arith))

pub part_lines : (n : ℕ) (bs : List ℕ) → 8 * n ≤ length bs → lines_of (take (8 * n) bs) ≡ first_lines n bs
unfolding first_lines
part_lines n bs h =
    let e : length (take (8 * n) bs) / 8 ≡ n = let z = length-take-le (8 * n) bs h in omega arith in
    rw e (tab_same n (line_at (take (8 * n) bs)) (line_at bs) (λ k q. part_bytes n bs k (omega arith)))
