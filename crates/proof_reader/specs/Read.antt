-- The reader of a proof: what a step gives, and where the reader then stands. It holds the lent lines and the number of the line it has come
-- to; each step gives that line's fields as they stand and moves one on; with no whole line left it tells the end and doesn't move.
--   step_at      line `at`, counted from 0, of the whole lines of the bytes, and the number of the next
--   moved_to     the same lines, at another place
--   lines_left   the whole lines from the reader's place on
use Rattle.std.specs.Prelude.{Bool, true, false, List, map, drop, ℕ, ◌+◌, ◌/◌, length, ltb, Option, Some, None}
use Rattle.proof_lines.specs.Codec.{line_at, lines_of}
use Rattle.proof_lines.specs.Reading.{read_of}
use Rattle.proof_lines.specs.declared.Line.{Line}
use Rattle.proof_reader.specs.declared.LineReader.{LineReader}

-- whether l stands at `at` as a whole line
abbrev pub step_over : Bool → Line → ℕ → Option Line × ℕ
step_over true l at = (Some l, at + 1)
step_over false l at = (None, at)

abbrev pub step_at : List ℕ → ℕ → Option Line × ℕ
step_at s at = step_over (ltb at (length s / 8)) (read_of (line_at s at)) at

abbrev pub moved_to : LineReader → ℕ → LineReader
moved_to r at = record { lines = r.lines; at = at }

abbrev pub lines_left : LineReader → List Line
lines_left r = map read_of (drop r.at (lines_of r.lines.now))
