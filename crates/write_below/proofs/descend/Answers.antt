-- `write_below::descend` meets its contract.
use Rattle.write_below.proofs.ChainLaws.{descended_child, descended_same}
use Rattle.write_below.proofs.descend.Goals as goal

pub returns-then-into-step : goal.returns-then-into-step
returns-then-into-step c = descended_child (rw c.from.ensures at c.child.ensures) c.put-down.ensures c.if-into-step.true

pub returns : goal.returns
returns c = descended_same (rw c.from.ensures at c.child.ensures) c.put-down.ensures (rw (c.from-2.ensures, c.from-3.ensures) at c.link-same.ensures) c.transitivity.ensures c.put.ensures
