-- `write_below::way_up` meets its contract: `low` is the upper end of the way so far, and the levels left are fewer.
use Rattle.std.proofs.Common.{ap, ◌∙◌}
use Rattle.solve_classes.specs.Table.{class}
use Rattle.write_below.proofs.StepLaws.{going_more, way_there}
use Rattle.write_below.proofs.way_up.Goals as goal

pub returns-then-table-from : goal.returns-then-table-from
returns-then-table-from c =
    let e = c.from-in-loop-down.ensures ∙ ap (class c.args.table) c.from.ensures in
    rw c.push.ensures (way_there c.requires.table c.requires.ways.0 c.loop-down.invariant (rw e at c.in-Some.is) (rw (c.from-in-Some.ensures, c.from-in-Some-2.ensures) at c.if-table-from.true))

pub loop-down-preserved : goal.loop-down-preserved
loop-down-preserved c =
    let e = c.from-in-loop-down.ensures ∙ ap (class c.args.table) c.from.ensures in
    rw c.push.ensures (going_more c.requires.table c.requires.ways.0 c.loop-down.invariant (rw e at c.in-Some.is) (rw (c.from-in-Some.ensures, c.from-in-Some-2.ensures) at c.if-table-from.false))
