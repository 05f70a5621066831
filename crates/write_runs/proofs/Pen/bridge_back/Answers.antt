-- `write_runs::Pen::bridge_back` meets its contract.
use Rattle.write_runs.proofs.RunLaws.{bridged_back}
use Rattle.write_runs.proofs.Pen.bridge_back.Goals as goal

pub returns : goal.returns
returns c =
    bridged_back c.transitivity.ensures c.symmetry.ensures c.transitivity-2.ensures c.put-through.ensures c.put-turned.ensures c.put.ensures
