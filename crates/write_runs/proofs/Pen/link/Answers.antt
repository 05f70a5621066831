-- `write_runs::Pen::link` meets its contract.
use Rattle.write_runs.proofs.RunLaws.{linked}
use Rattle.write_runs.proofs.Pen.link.Goals as goal

pub returns : goal.returns
returns c =
    linked c.symmetry.ensures c.transitivity.ensures c.put-turned.ensures c.put.ensures
