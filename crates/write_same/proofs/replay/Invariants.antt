-- `write_same::replay` meets its contract: after k turns the table and the lines are those of the first k entries.
use Rattle.write_same.specs.Replay.{Retracing}
use Rattle.write_same.proofs.replay.Given as goal

abbrev pub invariant-loop-entry : goal.invariant-loop-entry
invariant-loop-entry l = Retracing l.grounds.t.now l.grounds.e.now l.grounds.trace.now l.initial.pen l.entry-index l.table l.pen
