-- No call asks anything of its caller: each public function's own `requires`, as Rattle reads it from the source, holds of any arguments.
use mathlib.Core.List.{List}
use Prim.Native.Nat.{ℕ}
use contract.Lifetimes.{Lfts}
use denote.Ref.{Bor}
use denote.MutBor.{MutBor}
use Rattle.eqtrace_session.specs.declared.Cursor.{Cursor}
use Rattle.eqtrace_session.proofs.begin.Reads as begin
use Rattle.eqtrace_session.proofs.workspace.Reads as workspace
use Rattle.eqtrace_session.proofs.step.Reads as step

pub record Free : Type 0 where
  pub begins : (κs : Lfts 1) (input : Bor (List ℕ)) → begin.Pre κs (input, tt)
  pub ends : (c : Cursor) → workspace.Pre tt (c, tt)
  pub steps : (κs : Lfts 4) (c : Cursor) (input : Bor (List ℕ)) (proof names out : MutBor (List ℕ)) → step.Pre κs (c, (input, (proof, (names, (out, tt)))))

pub free : Free
free = record { begins = λ κs input. tt; ends = λ c. tt; steps = λ κs c input proof names out. tt }
