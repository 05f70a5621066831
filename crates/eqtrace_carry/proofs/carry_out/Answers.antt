-- `eqtrace_carry::carry_out` meets its contract.
use Rattle.std.proofs.Common.{sym, ap, ◌∙◌}
use Rattle.std.specs.Prelude.{Some}
use Rattle.eqtrace_orders.specs.declared.Order.{Order}
use Rattle.eqtrace_carry.proofs.OrderLaws.{carries_functor}
use Rattle.eqtrace_carry.proofs.carry_out.Goals as goal

pub returns-in-Functor : goal.returns-in-Functor
returns-in-Functor c =
    carries_functor _ _ _ (sym c.parse.ensures ∙ c.in-Some.is ∙ ap (λ (x : Order). Some x) c.in-Functor.is) _ _ _ _ _ _ _
    (rw c.as_slice.ensures.value at c.carry_functor.ensures _ _)
