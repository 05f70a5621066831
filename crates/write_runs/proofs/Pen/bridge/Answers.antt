-- `write_runs::Pen::bridge` meets its contract.
use Rattle.write_runs.proofs.RunLaws.{bridged}
use Rattle.write_runs.proofs.Pen.bridge.Goals as goal

pub returns : goal.returns
returns c =
    bridged c.transitivity.ensures c.symmetry.ensures c.transitivity-2.ensures c.put-through.ensures c.put-turned.ensures c.put.ensures
