-- `solve_reach::SearcherLentVisitor::visit` meets its contract: the first j children are looked at.
use Rattle.store.specs.Views.{lent_terms}
use Rattle.solve_reach.specs.Search.{Expanding}
use Rattle.solve_reach.proofs.SearcherLentVisitor.visit.Given as goal

abbrev pub invariant-loop-j : goal.invariant-loop-j
invariant-loop-j l = Expanding (lent_terms l.t) l.table l.fn.self l.p l.j l.self
