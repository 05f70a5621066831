-- `store::visit` meets its contract.
use mathlib.Core.Path.{sym, ◌∙◌}
use borrow.Author.Tests.{eqb-true, eqb-false}
use Rattle.store.specs.Heads.{variable, first, further}
use Rattle.store.proofs.visit.Goals as goal

pub returns-then-not-is_functor : goal.returns-then-not-is_functor
returns-then-not-is_functor c = variable (eqb-false _ _ (sym c.is_functor.ensures ∙ c.if-not-is_functor.true))

pub returns-in-Some : goal.returns-in-Some
returns-in-Some c = further _ (eqb-true _ _ (sym c.is_functor.ensures ∙ c.if-not-is_functor.false)) c.in-Some.is

pub returns-in-None : goal.returns-in-None
returns-in-None c = first (eqb-true _ _ (sym c.is_functor.ensures ∙ c.if-not-is_functor.false)) c.in-None.is
