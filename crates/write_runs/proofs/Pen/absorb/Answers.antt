-- `write_runs::Pen::absorb` meets its contract.
use borrow.Author.Rules.{rules}
use Rattle.write_runs.proofs.RunLaws.{absorbed_skip, absorbed_take}
use Rattle.write_runs.proofs.Pen.absorb.Goals as goal
use Rattle.write_runs.proofs.Pen.absorb.Goals.{then-table-x, else-table-x}

pub loop-x-preserved : goal.loop-x-preserved
loop-x-preserved c =
    elim c.if-table-x.branch [
      | then-table-x w ↦ rw w.self-is (absorbed_take c.loop-x.invariant (search rules) w.if-table-x.true w.transitivity.ensures w.put-longer.ensures)
      | else-table-x w ↦ rw w.self-is (absorbed_skip c.loop-x.invariant w.if-table-x.false)
    ]
