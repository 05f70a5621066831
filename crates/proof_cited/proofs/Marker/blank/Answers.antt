-- `proof_cited::Marker::blank` meets its contract.
use Rattle.proof_cited.proofs.MarkLaws.{blank_none}
use Rattle.proof_cited.proofs.Marker.blank.Goals as goal

pub returns : goal.returns
returns c = record { lines = blank_none 8192; names = blank_none 65536; blocks = blank_none 1024 }
