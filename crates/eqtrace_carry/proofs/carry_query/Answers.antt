-- `eqtrace_carry::carry_query` meets its contract.
use Rattle.eqtrace_carry.proofs.CarryLaws.{query_stands}
use Rattle.eqtrace_carry.proofs.carry_query.Goals as goal

pub returns-in-Ok : goal.returns-in-Ok
returns-in-Ok c =
    λ i. query_stands _ _ _ _ _ _ c.compare-o.ensures i _ _ c.in-Ok.is c.stance_answer.ensures _ c.stance_lines.ensures _ c.cite-cited.ensures c.tell.ensures
