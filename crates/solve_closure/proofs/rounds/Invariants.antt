-- `solve_closure::rounds` meets its contract: each round but the last lengthens the trace, which has at most 63 entries.
use Rattle.std.proofs.Common.{◌-◌, length}
use Rattle.store.specs.Views.{lent_terms}
use Rattle.solve_trace.specs.Nodes.{Nodes}
use Rattle.solve_trace.specs.Steps.{Extends}
use Rattle.solve_closure.proofs.rounds.Given as goal

abbrev pub invariant-loop-trace : goal.invariant-loop-trace
invariant-loop-trace l = Extends (Nodes (lent_terms l.t)) l.initial.table l.initial.trace.items l.table l.trace.items

abbrev pub decreases-loop-trace : goal.decreases-loop-trace
decreases-loop-trace l = 64 - length l.trace.items
