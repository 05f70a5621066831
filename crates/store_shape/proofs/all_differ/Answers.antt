-- `store_shape::all_differ` meets its contract.
use Rattle.store_shape.proofs.BitLaws.{new_none, new_more, marks_none}
use Rattle.store_shape.proofs.all_differ.Goals as goal

pub loop-x-init : goal.loop-x-init
loop-x-init c = new_none _ c.args.names.now (marks_none c.args.names.now)

pub loop-x-preserved : goal.loop-x-preserved
loop-x-preserved c =
    let n = c.note in
    new_more c.loop-x.seen _ c.args.names.now c.loop-x.x-index n.result c.loop-x.invariant n.ensures c.if-not-note.false
