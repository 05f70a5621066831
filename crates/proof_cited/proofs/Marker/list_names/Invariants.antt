-- `proof_cited::Marker::list_names` meets its contract: the names of the blocks before b are listed.
use Rattle.std.proofs.Common.{◌≡◌, ◌*◌, length}
use Rattle.proof_cited.specs.Marks.{Listing}
use Rattle.proof_cited.proofs.Marker.list_names.Given as goal

abbrev pub invariant-loop-b : goal.invariant-loop-b
invariant-loop-b l = Listing l.self.names l.names l.n (64 * l.b) × (length l.names ≡ length l.initial.names)
