-- `eqtrace_answers::Digits::of` meets its contract.
use Rattle.eqtrace_answers.proofs.DigitLaws.{Writing}
use Rattle.eqtrace_answers.proofs.Digits.of.Given as goal

abbrev pub invariant-loop-x : goal.invariant-loop-x
invariant-loop-x l = Writing l.n l.bytes l.k l.x

abbrev pub decreases-loop-x : goal.decreases-loop-x
decreases-loop-x l = l.x
