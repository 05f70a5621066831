-- `solve_heights::Peeler::count_nodes` meets its contract: the nodes below u are counted.
use Rattle.std.proofs.Common.{◌≡◌, true, replicate}
use Rattle.std.specs.Prelude.{None}
use Rattle.solve_heights.specs.Passes.{Counted}
use Rattle.solve_heights.proofs.Peeler.count_nodes.Given as goal

abbrev pub invariant-loop-u : goal.invariant-loop-u
invariant-loop-u l = record {
  height : l.self.height ≡ replicate 64 None;
  pending : l.self.pending ≡ replicate 64 true;
  went : l.self.went ≡ 0;
  counted : Counted l.table l.u l.self.waiting l.self.total;
}
