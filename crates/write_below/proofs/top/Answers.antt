-- `write_below::top` meets its contract.
use Rattle.write_below.proofs.StepLaws.{way_begins}
use Rattle.write_below.proofs.top.Goals as goal

pub returns : goal.returns
returns c =
    way_begins c.requires.table c.requires.ways.0 c.way_up.ensures (rw c.as_slice.ensures.value at (c.top_of.ensures c.args.u))
