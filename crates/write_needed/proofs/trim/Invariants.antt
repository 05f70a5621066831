-- `write_needed::trim` meets its contract: after each turn what is kept joins all that the whole did.
use Rattle.std.proofs.Common.{◌≤◌, length}
use Rattle.write_needed.specs.Trim.{Trimmed}
use Rattle.write_needed.proofs.trim.Given as goal

abbrev pub invariant-loop-k : goal.invariant-loop-k
invariant-loop-k l = (l.k ≤ length l.trace.items) × Trimmed l.t l.e l.initial.trace.items l.u l.v l.pairs l.trace.items
