-- `write_runs::Pen::own_lines` meets its contract.
use mathlib.Core.Path.{◌≡◌}
use Rattle.write_runs.specs.Runs.{Started}
use Rattle.write_runs.proofs.Pen.own_lines.Given as goal

abbrev pub invariant-loop-x : goal.invariant-loop-x
invariant-loop-x l = (l.self.buf.ghost_name ≡ l.fn.self.buf.ghost_name) × Started l.fn.self.buf.now l.fn.self.nodes l.x l.self
