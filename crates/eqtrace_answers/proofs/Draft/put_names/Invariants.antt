-- `eqtrace_answers::Draft::put_names` meets its contract.
use Rattle.eqtrace_answers.proofs.PutLaws.{Listing}
use Rattle.eqtrace_answers.proofs.Draft.put_names.Given as goal

abbrev pub invariant-loop-name : goal.invariant-loop-name
invariant-loop-name l = Listing l.fn.self l.names l.name-index l.self
