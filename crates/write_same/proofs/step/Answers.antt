-- `write_same::step` meets its contract.
use Rattle.write_same.proofs.RetraceLaws.{stepped}
use Rattle.write_same.proofs.step.Goals as goal

pub returns : goal.returns
returns c = stepped c.write_reason-reason.ensures c.rewire.ensures
