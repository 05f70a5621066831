-- `store_shape::all_differ` meets its contract.
use Rattle.store_shape.proofs.BitLaws.{NewTo}
use Rattle.store_shape.proofs.all_differ.Given as goal

abbrev pub invariant-loop-x : goal.invariant-loop-x
invariant-loop-x l = NewTo l.seen l.names l.x-index
