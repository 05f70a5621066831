-- `proof_cited::Marker::list_block` meets its contract: the names below x are listed.
use Rattle.std.proofs.Common.{◌≡◌, length}
use Rattle.proof_cited.specs.Marks.{Listing}
use Rattle.proof_cited.proofs.Marker.list_block.Given as goal

abbrev pub invariant-loop-x : goal.invariant-loop-x
invariant-loop-x l = Listing l.self.names l.names l.n l.x × (length l.names ≡ length l.initial.names)
