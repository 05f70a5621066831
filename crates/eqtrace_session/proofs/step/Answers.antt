-- `eqtrace_session::step` meets its contract: by what is left.
use mathlib.Core.Path.{refl, sym, ◌∙◌}
use mathlib.Core.Bool.{false}
use borrow.Author.Rules.{rules}
use borrow.Author.Tests.{ltb-false}
use Rattle.eqtrace_session.specs.declared.Left.TheVariants as left
use Rattle.eqtrace_session.proofs.LeftLaws.{within}
use Rattle.eqtrace_session.proofs.StepLaws.{steps_at}
use Rattle.eqtrace_session.proofs.step.Goals as goal

pub order-requires-clause-within : goal.order-requires-clause-within
order-requires-clause-within c =
    let b = within _ _ _ left.Order (sym c.left.ensures ∙ c.in-Order.is) false refl in
    (b.inside, ltb-false _ _ b.long, b.number)

pub returns-in-Nothing : goal.returns-in-Nothing
returns-in-Nothing c =
    steps_at _ _ _ _ _ _ _ left.Nothing (sym c.in-Nothing.is ∙ c.left.ensures) (refl, refl, refl) (search rules) (search rules)

pub returns-in-TooLong : goal.returns-in-TooLong
returns-in-TooLong c =
    steps_at _ _ _ _ _ _ _ left.TooLong (sym c.in-TooLong.is ∙ c.left.ensures) (c.too_long.ensures, refl) (search rules) (search rules)

pub returns-in-Order : goal.returns-in-Order
returns-in-Order c =
    steps_at _ _ _ _ _ _ _ left.Order (sym c.in-Order.is ∙ c.left.ensures) c.order.ensures (search rules) (let k = c.order.auto in search rules)
