-- `write_below::way_up` meets its contract: `low` is the upper end of the way so far, and the levels left are fewer.
use Rattle.std.proofs.Common.{◌-◌, length}
use Rattle.write_below.specs.Steps.{OnTheWay}
use Rattle.write_below.proofs.way_up.Given as goal

abbrev pub invariant-loop-down : goal.invariant-loop-down
invariant-loop-down l = OnTheWay l.table l.search l.v l.way.items l.low

abbrev pub decreases-loop-down : goal.decreases-loop-down
decreases-loop-down l = 64 - length l.way.items
