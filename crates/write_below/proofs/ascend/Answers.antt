-- `write_below::ascend` meets its contract.
use Rattle.write_below.proofs.StepLaws.{upper_small}
use Rattle.write_below.proofs.ChainLaws.{ascended}
use Rattle.write_below.proofs.ascend.Goals as goal

pub arrive-requires-clause-u_bound : goal.arrive-requires-clause-u_bound
arrive-requires-clause-u_bound c =
    (c.requires.u_bound, rw (c.top_of.ensures 0) (upper_small 0 c.args.steps.now c.requires.room.0 c.requires.on_nodes))

pub returns : goal.returns
returns c =
    ascended c.args.steps.now _ c.requires.room.0 c.descend-first.ensures c.climb-highest.ensures c.top_of.ensures c.arrive.ensures
