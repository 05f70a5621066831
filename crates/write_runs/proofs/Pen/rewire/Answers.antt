-- `write_runs::Pen::rewire` meets its contract.
use Rattle.write_runs.proofs.RunLaws.{rewired_up, rewired_down}
use Rattle.write_runs.proofs.Pen.rewire.Goals as goal

pub returns-then-ca-cb : goal.returns-then-ca-cb
returns-then-ca-cb c =
    rw (c.from-x.ensures, c.from-y.ensures) at (rewired_up c.if-ca-cb.true c.bridge_back-back.ensures c.absorb.ensures)

pub returns-else-ca-cb : goal.returns-else-ca-cb
returns-else-ca-cb c =
    rw (c.from-x.ensures, c.from-y.ensures) at (rewired_down c.if-ca-cb.false c.bridge-forth.ensures c.absorb-else-ca-cb.ensures)
