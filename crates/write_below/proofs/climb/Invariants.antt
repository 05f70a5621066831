-- `write_below::climb` meets its contract.
use Rattle.write_below.specs.Chain.{Climbing}
use Rattle.write_below.proofs.climb.Given as goal

abbrev pub invariant-loop-step : goal.invariant-loop-step
invariant-loop-step l = Climbing l.initial.pen l.steps l.l l.step-index l.pen l.last
