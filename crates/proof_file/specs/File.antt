-- The proof file: the mark `PTH`, 16-bit version 1, 16-bit line count, the lines.
--   file_of        the file of a list of lines, given as bytes
--   file_refusal   why bytes are no proof file: refusal 15 under 7 bytes; 14 mark or version; 15 count or length
--   lines_in       the lines in a file, the bytes after its seven header bytes; none where it is refused
--   write_refusal  why lines aren't written: refusal 11 their length, 17 the buffer's
use Rattle.std.specs.Prelude.{Bool, not, ◌&&◌, cond, List, [], ◌∷◌, ◌++◌, ℕ, ◌+◌, ◌*◌, ◌/◌, ◌%◌, length, get_or, drop, eqb, ltb}
use Rattle.std.proofs.Math.Option.{Option, none, some}
use Rattle.refusals.specs.declared.Refusal.{Refusal}
use Rattle.refusals.specs.declared.Refusal.TheVariants.{BadLength, NotAProofFile, BadFileLength, ShortOutput}
use Rattle.graph.specs.Limits.{line_limit}
use Rattle.proof_lines.specs.Codec.{two}
use Rattle.proof_check.specs.Answers.{bad_length}

-- `PTH`, version 1, and the count
abbrev pub header_of : ℕ → List ℕ
header_of count = 80 ∷ 84 ∷ 72 ∷ 0 ∷ 1 ∷ count / 256 ∷ count % 256 ∷ []

abbrev pub file_of : List ℕ → List ℕ
file_of lines = header_of (length lines / 8) ++ lines

unfoldable pub is_marked : List ℕ → Bool
is_marked file = eqb (get_or file 0 0) 80 && (eqb (get_or file 1 0) 84 && (eqb (get_or file 2 0) 72 && eqb (two file 3) 1))

unfoldable pub is_counted : List ℕ → Bool
is_counted file = not (eqb (two file 5) 0) && (not (ltb line_limit (two file 5)) && eqb (length file) (7 + 8 * two file 5))

unfoldable pub file_refusal : List ℕ → Option Refusal
file_refusal file = cond (ltb (length file) 7) (some BadFileLength) (cond (is_marked file) (cond (is_counted file) none (some BadFileLength)) (some NotAProofFile))

abbrev pub lines_or : Option Refusal → List ℕ → List ℕ
lines_or none file = drop 7 file
lines_or (some e) file = []

abbrev pub lines_in : List ℕ → List ℕ
lines_in file = lines_or (file_refusal file) file

abbrev pub write_refusal : ℕ → ℕ → Option Refusal
write_refusal size room = cond (bad_length size) (some BadLength) (cond (ltb room (7 + size)) (some ShortOutput) none)
