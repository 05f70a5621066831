-- `eqtrace_console::answer_all`: the steps so far are a run of the input, and what they printed was written.
use Rattle.std.proofs.Common.{◌+◌, ◌-◌, length}
use Rattle.eqtrace_console.proofs.WrittenLaws.{SoFar}
use Rattle.eqtrace_console.proofs.answer_all.Given as goal

abbrev pub invariant-loop-d : goal.invariant-loop-d
invariant-loop-d g l = SoFar (g.W.Write.contents l.initial.to) (g.W.Write.contents l.to) l.written l.input l.c

abbrev pub decreases-loop-d : goal.decreases-loop-d
decreases-loop-d g l = length l.input + 1 - l.c.at
