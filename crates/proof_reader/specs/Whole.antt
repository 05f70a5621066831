-- A reader gives the lines that the checker reads, and no byte past them: the claim that proofs/ReadLaws proves as `whole`.
use Rattle.std.specs.Prelude.{◌≡◌, List, ◌++◌, ℕ, ◌+◌, ◌%◌, ◌<◌, length, Option, Some}
use Rattle.std.proofs.Math.Option.{some}
use Rattle.std.proofs.Math.ListN.{get_elem?}
use Rattle.graph.specs.Lines.{Line}
use Rattle.proof_lines.specs.Codec.{lines_of}
use Rattle.proof_lines.specs.Reading.{read_of}
use Rattle.proof_lines.specs.declared.Line.{Line as LineRead}
use Rattle.proof_reader.specs.Read.{step_at}

pub record Whole : Type 0 where
  -- line k of the proof
  pub lines : (bs : List ℕ) (k : ℕ) (l : Line) → get_elem? (lines_of bs) k ≡ some l → ◌≡◌ {A = Option LineRead × ℕ} (step_at bs k) (Some (read_of l), k + 1)
  -- bytes after the whole lines that make no line are never read
  pub trailing : (bs rest : List ℕ) → length bs % 8 ≡ 0 → length rest < 8 → (k : ℕ) → ◌≡◌ {A = Option LineRead × ℕ} (step_at (bs ++ rest) k) (step_at bs k)
