-- No call asks anything of its caller: each public function's own `requires`, as Rattle reads it from the source, holds of any arguments.
use mathlib.Core.List.{List}
use Prim.Native.Nat.{ℕ}
use contract.Lifetimes.{Lfts}
use denote.Ref.{Bor}
use denote.MutBor.{MutBor}
use Rattle.proof_reader.specs.declared.LineReader.{LineReader}
use Rattle.proof_reader.proofs.LineReader.step.Reads as step
use Rattle.proof_reader.proofs.LineReaderIterator.next.Reads as next
use Rattle.proof_reader.proofs.read_line.Reads as read-line
use Rattle.proof_reader.proofs.count_lines.Reads as count-lines

pub record Free : Type 0 where
  pub steps : (κs : Lfts 2) (r : MutBor LineReader) → step.Pre κs (r, tt)
  pub gives_next : (κs : Lfts 2) (r : MutBor LineReader) → next.Pre κs (r, tt)
  pub reads_line : (κs : Lfts 1) (lines : Bor (List ℕ)) (at : ℕ) → read-line.Pre κs (lines, (at, tt))
  pub counts : (κs : Lfts 1) (lines : Bor (List ℕ)) → count-lines.Pre κs (lines, tt)

pub free : Free
free = record { steps = λ κs r. tt; gives_next = λ κs r. tt; reads_line = λ κs lines at. tt; counts = λ κs lines. tt }
