-- `write_needed::rebuild` meets its contract.
use Rattle.std.proofs.Common.{take}
use Rattle.write_needed.specs.Trim.{Extended}
use Rattle.write_needed.proofs.rebuild.Given as goal

abbrev pub invariant-loop-entry : goal.invariant-loop-entry
invariant-loop-entry l = Extended l.t l.e l.initial.table (take l.entry-index l.entries) l.table
