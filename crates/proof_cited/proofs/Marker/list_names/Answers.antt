-- `proof_cited::Marker::list_names` meets its contract: the names of the blocks before b are listed.
use Rattle.std.proofs.Common.{◌∙◌}
use Rattle.proof_cited.proofs.ListLaws.{listing_jump}
use Rattle.proof_cited.proofs.Marker.list_names.Goals as goal
use Rattle.proof_cited.proofs.Marker.list_names.Goals.{then-noted, else-noted}

pub loop-b-preserved : goal.loop-b-preserved
loop-b-preserved c =
    elim c.if-noted.branch [
      | then-noted w ↦ rw (w.names-is, w.n-is) (w.list_block-n.ensures, w.list_block-n.auto.names ∙ c.loop-b.invariant.1)
      | else-noted w ↦ rw (w.names-is, w.n-is) (listing_jump _ _ _ _ c.loop-b.invariant.0 c.requires.0 w.if-noted.false, c.loop-b.invariant.1)
    ]
