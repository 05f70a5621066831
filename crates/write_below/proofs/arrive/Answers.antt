-- `write_below::arrive` meets its contract.
use Rattle.write_below.proofs.ChainLaws.{arrived_there, arrived}
use Rattle.write_below.proofs.arrive.Goals as goal

pub returns-then-u-q : goal.returns-then-u-q
returns-then-u-q c = arrived_there c.if-u-q.true

pub returns : goal.returns
returns c = arrived (rw (c.from.ensures, c.from-2.ensures) at c.link-same.ensures) c.transitivity.ensures c.put.ensures
