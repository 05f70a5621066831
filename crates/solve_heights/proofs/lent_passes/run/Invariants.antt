-- `solve_heights::lent_passes::run` meets its contract: each pass but the last counts something.
use Rattle.std.proofs.Common.{◌≡◌, ◌-◌}
use Rattle.store.specs.Views.{lent_terms}
use Rattle.solve_heights.proofs.lent_passes.run.Given as goal

abbrev pub invariant-loop-before : goal.invariant-loop-before
invariant-loop-before g l = record {
  between : g.V.LentVisitor.between (lent_terms l.t) l.table l.v;
  fixed : g.V.LentVisitor.fixed l.v ≡ g.V.LentVisitor.fixed l.fn.v;
  counted : l.before ≡ g.V.LentVisitor.counted l.v;
}

abbrev pub decreases-loop-before : goal.decreases-loop-before
decreases-loop-before g l = l.most - l.before
