-- `solve_classes::members` meets its contract: the set of the nodes passed, made in rising order.
use Rattle.std.proofs.Common.{sym, ◌∙◌, arith}
use borrow.Author.Tests.{eq-eqb, ne_eqb}
use Rattle.solve_classes.specs.Members.{in_class}
use Rattle.solve_classes.proofs.SetLaws.{set_none, set_shifted, set_out}
use Rattle.solve_classes.proofs.members.Goals as goal
use Rattle.solve_classes.proofs.members.Goals.{then-x-c, else-x-c}

pub loop-i-init : goal.loop-i-init
loop-i-init c = sym (set_none _)

pub loop-i-preserved : goal.loop-i-preserved
loop-i-preserved c =
    let f = in_class c.args.table c.args.c in
    elim c.if-x-c.branch [
      | then-x-c w ↦ set_shifted f c.loop-i.i w.set-is (omega arith) c.loop-i.invariant c.loop-i-test.true (eq-eqb _ _ w.if-x-c.true)
      | else-x-c w ↦ w.set-is ∙ c.loop-i.invariant ∙ set_out f c.loop-i.i (ne_eqb _ _ w.if-x-c.false)
    ]
