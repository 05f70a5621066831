-- `write_below::put_pairs` meets its contract.
use Rattle.std.proofs.Common.{◌≡◌, take, map}
use Rattle.write_below.specs.Steps.{pair_of}
use Rattle.write_below.proofs.put_pairs.Given as goal

abbrev pub invariant-loop-step : goal.invariant-loop-step
invariant-loop-step l = l.pairs.items ≡ map pair_of (take l.step-index l.steps)
