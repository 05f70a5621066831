-- `write_runs::Pen::own_lines` meets its contract.
use mathlib.Core.Path.{refl}
use borrow.Author.Rules.{rules}
use native.Mathlib.Omega.{arith}
use Rattle.write_runs.proofs.RunLaws.{started_none, started_more}
use Rattle.write_runs.proofs.Pen.own_lines.Goals as goal

pub loop-x-init : goal.loop-x-init
loop-x-init c = (refl, started_none c.requires)

pub loop-x-preserved : goal.loop-x-preserved
loop-x-preserved c =
    (search rules, started_more (omega arith) c.reflexivity.ensures c.loop-x.invariant.1 c.put-own.ensures)
