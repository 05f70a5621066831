-- `solve_heights::lent_passes::pass` meets its contract: where nothing was counted, the nodes so far are closed.
use Rattle.std.proofs.Common.{◌≡◌, ℕ, ◌≤◌, ◌<◌}
use Rattle.store.specs.Views.{lent_terms}
use Rattle.solve_heights.proofs.lent_passes.pass.Given as goal

abbrev pub invariant-loop-u : goal.invariant-loop-u
invariant-loop-u g l = record {
  between : g.V.LentVisitor.between (lent_terms l.t) l.table l.v;
  fixed : g.V.LentVisitor.fixed l.v ≡ g.V.LentVisitor.fixed l.fn.v;
  risen : g.V.LentVisitor.counted l.fn.v ≤ g.V.LentVisitor.counted l.v;
  closed : g.V.LentVisitor.counted l.v ≡ g.V.LentVisitor.counted l.fn.v → (u : ℕ) → l.u ≤ u → u < l.t.count → g.V.LentVisitor.closed (lent_terms l.t) l.table l.v u;
}

abbrev pub invariant-loop-u-else-down : goal.invariant-loop-u-else-down
invariant-loop-u-else-down g l = record {
  between : g.V.LentVisitor.between (lent_terms l.t) l.table l.v;
  fixed : g.V.LentVisitor.fixed l.v ≡ g.V.LentVisitor.fixed l.fn.v;
  risen : g.V.LentVisitor.counted l.fn.v ≤ g.V.LentVisitor.counted l.v;
  closed : g.V.LentVisitor.counted l.v ≡ g.V.LentVisitor.counted l.fn.v → (u : ℕ) → u < l.u → g.V.LentVisitor.closed (lent_terms l.t) l.table l.v u;
}
