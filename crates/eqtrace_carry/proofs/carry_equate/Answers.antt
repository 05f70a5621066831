-- `eqtrace_carry::carry_equate` meets its contract.
use Rattle.eqtrace_carry.proofs.CarryLaws.{offer_refused}
use Rattle.eqtrace_carry.proofs.carry_equate.Goals as goal

pub returns-in-Err : goal.returns-in-Err
returns-in-Err c = λ i. offer_refused _ _ _ _ _ c.equate-o.ensures _ i (λ b d. d) _ c.in-Err.is _ c.refusal_lines.ensures _ c.cite-cited.ensures c.tell-in-Err.ensures
