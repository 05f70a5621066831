-- What is left at a reader's place; and a reader reads whole lines alone.
use mathlib.Core.Path.{◌≡◌, refl, ap, ◌∙◌}
use mathlib.Core.Bool.{Bool, true, false}
use mathlib.Core.List.{List, [], ◌∷◌, ◌++◌, map}
use mathlib.Core.Option.{some}
use Prim.Native.Nat.{ℕ, ◌+◌, ◌*◌, ◌/◌, ◌%◌, ◌≤◌, ◌<◌}
use native.Mathlib.Omega.{arith}
use lib.ListN.{length, get_or, get_elem?, drop, length-append, get_or-append, drop_of_length-le}
use lib.Dec.{ltb}
use borrow.Author.Tests.{lt-ltb, ltb-true, ltb-false}
use Rattle.std.specs.Prelude.{Option, Some, None}
use Rattle.std.proofs.lemmas.List.{drop_more, length-map}
use Rattle.graph.specs.Lines.{Line}
use Rattle.base.proofs.ListLaws.{found_lt}
use Rattle.proof_lines.specs.Codec.{line_at, lines_of}
use Rattle.proof_lines.proofs.Decoding.{lines_length, lines_at, lines_found}
use Rattle.proof_lines.specs.Reading.{read_of}
use Rattle.proof_lines.specs.declared.Line.{Line as LineRead}
use Rattle.std.specs.Iterator.{YieldsFirst, MakesProgress, item_count}
use Rattle.proof_reader.specs.declared.LineReader.{LineReader}
use Rattle.proof_reader.specs.Read.{step_over, step_at, moved_to, lines_left}
use Rattle.proof_reader.specs.Whole.{Whole}

-- ---- what is left

pub left_more : (bs : List ℕ) (k : ℕ) → k < length bs / 8 → map read_of (drop k (lines_of bs)) ≡ read_of (line_at bs k) ∷ map read_of (drop (k + 1) (lines_of bs))
left_more bs k h =
    ap (map read_of) (drop_more (lines_of bs) k (line_at bs k) (rw (lines_length bs) h))
    ∙ ap (λ (l : Line). read_of l ∷ map read_of (drop (k + 1) (lines_of bs))) (lines_at bs k (line_at bs k) h)

pub left_none : (bs : List ℕ) (k : ℕ) → length bs / 8 ≤ k → ◌≡◌ {A = List LineRead} (map read_of (drop k (lines_of bs))) []
left_none bs k h = ap (map read_of) (drop_of_length-le (lines_of bs) (rw (lines_length bs) h))

pub left_all : (bs : List ℕ) → length (map read_of (drop 0 (lines_of bs))) ≡ length bs / 8
left_all bs = rw length-map (lines_length bs)

-- a step gives the first line that is left
pub step_left : (r t : LineReader) (o : Option LineRead) → o ≡ (step_at r.lines.now r.at).0 → t ≡ moved_to r (step_at r.lines.now r.at).1 → YieldsFirst lines_left r o t
step_left r t o p q = rw (p, q) (go (ltb r.at (length r.lines.now / 8)) refl)
  where
    go : (b : Bool) → ltb r.at (length r.lines.now / 8) ≡ b
        → YieldsFirst lines_left r (step_over b (read_of (line_at r.lines.now r.at)) r.at).0 (moved_to r (step_over b (read_of (line_at r.lines.now r.at)) r.at).1)
    go true e = left_more r.lines.now r.at (ltb-true _ _ e)
    go false e = let n = left_none r.lines.now r.at (ltb-false _ _ e) in (n, n)

-- and so each line brings the end nearer
pub goes_left : (r t : LineReader) (o : Option LineRead) → YieldsFirst lines_left r o t → MakesProgress (λ (s : LineReader). Unit {0}) (item_count lines_left) r o t
goes_left r t None h = record { on = λ f. tt; keeps = tt; rests = λ f. tt }
goes_left r t (Some x) h = record { on = λ f. (tt, tt, omega (arith, ap length h)); keeps = tt; rests = λ f. tt }

-- ---- whole lines, and no byte past them

lines_step : (bs : List ℕ) (k : ℕ) (m : Line) → get_elem? (lines_of bs) k ≡ some m → ◌≡◌ {A = Option LineRead × ℕ} (step_at bs k) (Some (read_of m), k + 1)
lines_step bs k m e =
    let h : k < length bs / 8 = rw (lines_length bs) at (found_lt (lines_of bs) k m e) in
    let q : line_at bs k ≡ m = cc (lines_found bs k h) in
    rw (lt-ltb _ _ h) (ap (λ (x : Line). step_over true (read_of x) k) q)

module _ (bs rest : List ℕ) (w : length bs % 8 ≡ 0) (h : length rest < 8) (k : ℕ) where
  line_kept : k < length bs / 8 → line_at (bs ++ rest) k ≡ line_at bs k
  line_kept i =
      let at : (j : ℕ) → j < length bs → get_or (bs ++ rest) j 0 ≡ get_or bs j 0 = λ j q. get_or-append bs rest 0 j q in
      rw (at (8 * k) (omega arith), at (8 * k + 1) (omega arith), at (8 * k + 2) (omega arith), at (8 * k + 2 + 1) (omega arith), at (8 * k + 4) (omega arith), at (8 * k + 4 + 1) (omega arith), at (8 * k + 6) (omega arith), at (8 * k + 6 + 1) (omega arith))

  trailing_step : ◌≡◌ {A = Option LineRead × ℕ} (step_at (bs ++ rest) k) (step_at bs k)
  trailing_step =
      let a : length (bs ++ rest) ≡ length bs + length rest = length-append bs rest in
      let n : length (bs ++ rest) / 8 ≡ length bs / 8 = omega arith in
      rw n (go (ltb k (length bs / 8)) refl)
    where
      go : (b : Bool) → ltb k (length bs / 8) ≡ b → ◌≡◌ {A = Option LineRead × ℕ} (step_over b (read_of (line_at (bs ++ rest) k)) k) (step_over b (read_of (line_at bs k)) k)
      go true e = ap (λ (m : Line). step_over true (read_of m) k) (line_kept (ltb-true _ _ e))
      go false e = refl

pub whole : Whole
whole = record { lines = lines_step; trailing = trailing_step }
