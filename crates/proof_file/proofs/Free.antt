-- No call asks anything of its caller: each public function's own `requires`, as Rattle reads it from the source, holds of any arguments.
use mathlib.Core.List.{List}
use Prim.Native.Nat.{ℕ}
use contract.Lifetimes.{Lfts}
use denote.Ref.{Bor}
use denote.MutBor.{MutBor}
use Rattle.proof_file.proofs.write.Reads as write
use Rattle.proof_file.proofs.read_reply.Reads as read-reply
use Rattle.proof_file.proofs.read.Reads as read

pub record Free : Type 0 where
  pub writes : (κs : Lfts 2) (lines : Bor (List ℕ)) (out : MutBor (List ℕ)) → write.Pre κs (lines, (out, tt))
  pub replies : (κs : Lfts 1) (file : Bor (List ℕ)) → read-reply.Pre κs (file, tt)
  pub reads : (κs : Lfts 1) (file : Bor (List ℕ)) → read.Pre κs (file, tt)

pub free : Free
free = record { writes = λ κs lines out. tt; replies = λ κs file. tt; reads = λ κs file. tt }
