-- `eqtrace_answers::Digits::of` meets its contract.
use Rattle.std.proofs.Common.{arith, refl}
use Rattle.eqtrace_answers.proofs.DigitLaws.{writing_place, writing_more, writing_last}
use Rattle.eqtrace_answers.proofs.Digits.of.Goals as goal

pub loop-x-preserved : goal.loop-x-preserved
loop-x-preserved c = writing_more _ _ _ _ c.loop-x.invariant c.loop-x-test.true _ c.digit.ensures _ (omega (arith, writing_place _ _ _ _ c.loop-x.invariant c.loop-x-test.true))

pub returns : goal.returns
returns c = writing_last _ _ _ _ c.loop-x.invariant c.loop-x-test.false _ c.digit-2.ensures _ refl refl
