-- `solve_closure::round` meets its contract: the nodes from u up are visited.
use Rattle.store.specs.Views.{lent_terms}
use Rattle.solve_closure.proofs.VisitLaws.{Passed}
use Rattle.solve_closure.proofs.round.Given as goal

abbrev pub invariant-loop-u : goal.invariant-loop-u
invariant-loop-u l = Passed (lent_terms l.t) l.initial.table l.initial.trace.items l.u l.table l.trace.items l.head
