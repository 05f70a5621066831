-- `write_needed::rebuild` meets its contract.
use mathlib.Core.Path.{ap}
use borrow.Author.Rules.{rules}
use Rattle.solve_classes.specs.Table.{class}
use Rattle.write_needed.proofs.TrimLaws.{extended_none, extended_more}
use Rattle.write_needed.proofs.rebuild.Goals as goal

pub loop-entry-init : goal.loop-entry-init
loop-entry-init c = extended_none c.requires.table

pub loop-entry-preserved : goal.loop-entry-preserved
loop-entry-preserved c =
    let a = c.ends_of-a.ensures in
    extended_more _ _ (search rules) c.loop-entry.invariant a.left a.right (rw (c.from.ensures, c.from-in-loop-entry.ensures) at c.if-ca-cb.false) (c.together.ensures c.if-not-together.false)
    (c.unite-next.ensures _ _ (search rules) (search rules) (ap (class c.loop-entry.table) c.from.ensures) (ap (class c.loop-entry.table) c.from-in-loop-entry.ensures))
