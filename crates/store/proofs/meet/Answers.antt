-- `store::meet` meets its contract.
use mathlib.Core.Path.{sym, ap, ◌∙◌}
use native.Mathlib.Omega.{arith}
use lib.ListN.{get_or}
use Rattle.byte_option.proofs.TableLaws.{got}
use Rattle.store.specs.Heads.{variable, first, further}
use Rattle.store.proofs.meet.Goals as goal

pub returns-then-kind-u-ne1 : goal.returns-then-kind-u-ne1
returns-then-kind-u-ne1 c t e = variable (λ q. c.if-kind-u-ne1.true (sym (ap (λ l. get_or l c.args.u 0) e) ∙ q))

pub returns-in-Some : goal.returns-in-Some
returns-in-Some c t e =
    further _ (ap (λ l. get_or l c.args.u 0) e ∙ c.if-kind-u-ne1.false)
    (got c.args.head.now (omega (arith, c.told-head, c.requires.0)) c.index-head-c.is c.get.ensures ∙ c.in-Some.is)

pub returns-in-None : goal.returns-in-None
returns-in-None c t e =
    rw c.some.ensures
    (first (ap (λ l. get_or l c.args.u 0) e ∙ c.if-kind-u-ne1.false)
    (got c.args.head.now (omega (arith, c.told-head, c.requires.0)) c.index-head-c.is c.get.ensures ∙ c.in-None.is))
