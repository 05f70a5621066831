-- `write_runs::Pen::absorb` meets its contract.
use Rattle.write_runs.specs.Runs.{Absorbed}
use Rattle.write_runs.proofs.Pen.absorb.Given as goal

abbrev pub invariant-loop-x : goal.invariant-loop-x
invariant-loop-x l = Absorbed l.fn.self l.table l.keep l.gone l.l l.x l.self
