-- `write_below::climb` meets its contract.
use borrow.Author.Rules.{rules}
use Rattle.write_below.proofs.ChainLaws.{climbing_none, climbing_more, climbed}
use Rattle.write_below.proofs.climb.Goals as goal

pub loop-step-init : goal.loop-step-init
loop-step-init c = climbing_none

pub loop-step-preserved : goal.loop-step-preserved
loop-step-preserved c =
    climbing_more c.loop-step.invariant _ (search rules) c.descend-down.ensures c.transitivity.ensures c.put-longer.ensures

pub returns : goal.returns
returns c = climbed c.loop-step.invariant (search rules)
