-- `proof_cited::Marker::list_block` meets its contract: the names below x are listed.
use Rattle.std.proofs.Common.{rules, ◌∙◌, length-set}
use Rattle.proof_cited.proofs.ListLaws.{listing_skip, listing_few, listing_room, listing_more}
use Rattle.proof_cited.proofs.Marker.list_block.Goals as goal
use Rattle.proof_cited.proofs.Marker.list_block.Goals.{then-self-x, else-self-x}

pub offset_bounds-names-n : goal.offset_bounds-names-n
offset_bounds-names-n c = let few = listing_few _ _ _ _ c.loop-x.invariant.0 in search rules

pub bounds-names-n : goal.bounds-names-n
bounds-names-n c = listing_room _ _ _ _ c.loop-x.invariant.0 c.if-self-x.true

pub overflow_add-n : goal.overflow_add-n
overflow_add-n c = let few = listing_few _ _ _ _ c.loop-x.invariant.0 in search rules

pub loop-x-preserved : goal.loop-x-preserved
loop-x-preserved c =
    elim c.if-self-x.branch [
      | then-self-x w ↦ rw (w.names-is, w.n-is) (listing_more _ _ _ _ c.loop-x.invariant.0 w.if-self-x.true, length-set c.loop-x.names c.loop-x.n c.loop-x.x ∙ c.loop-x.invariant.1)
      | else-self-x w ↦ rw (w.names-is, w.n-is) (listing_skip _ _ _ _ c.loop-x.invariant.0 w.if-self-x.false, c.loop-x.invariant.1)
    ]
