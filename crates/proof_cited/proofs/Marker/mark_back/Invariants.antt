-- `proof_cited::Marker::mark_back` meets its contract: the lines from k on are handled.
use Rattle.proof_cited.proofs.BackLaws.{Marking}
use Rattle.proof_cited.proofs.Marker.mark_back.Given as goal

abbrev pub invariant-loop-k : goal.invariant-loop-k
invariant-loop-k l = Marking l.bytes l.self l.k
