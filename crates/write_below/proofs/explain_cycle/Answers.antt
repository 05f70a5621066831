-- `write_below::explain_cycle` meets its contract.
use Rattle.write_below.proofs.WayLaws.{circled}
use Rattle.write_below.proofs.explain_cycle.Goals as goal

pub returns : goal.returns
returns c = circled c.top-p.ensures c.explain_below.ensures
