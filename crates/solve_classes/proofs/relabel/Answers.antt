-- `solve_classes::relabel` meets its contract: the loop maps over the table in place.
use Rattle.std.proofs.Common.{sym, arith, rules}
use borrow.Author.Tests.{eq-eqb, ne_eqb}
use Rattle.solve_classes.proofs.MapLaws.{mapped_none, mapped_set}
use Rattle.solve_classes.proofs.relabel.Goals as goal
use Rattle.solve_classes.proofs.relabel.Goals.{then-x-gone, else-x-gone}

pub loop-x-init : goal.loop-x-init
loop-x-init c = mapped_none _ _

pub loop-x-preserved : goal.loop-x-preserved
loop-x-preserved c =
    let m = c.loop-x.invariant in
    elim c.if-x-gone.branch [
      | then-x-gone w ↦ rw w.x-items-is (mapped_set _ _ _ _ _ (search rules) m (sym (rw (eq-eqb _ _ w.if-x-gone.true))))
      | else-x-gone w ↦ rw w.x-items-is (mapped_set _ _ _ _ _ (search rules) m (rw (ne_eqb _ _ w.if-x-gone.false)))
    ]

pub returns : goal.returns
returns c =
    let m = c.loop-x.invariant in
    record { size = search (rules, m.size); entry = λ i h. m.done i (omega arith) }
