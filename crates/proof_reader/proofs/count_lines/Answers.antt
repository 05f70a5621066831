-- `proof_reader::count_lines` meets its contract.
use Rattle.std.proofs.Common.{refl, ◌∙◌, inl, arith}
use Rattle.std.proofs.lemmas.Iterator.Consumers.{count_from_yields_List, YieldsList-from_first}
use Rattle.proof_reader.specs.Read.{lines_left}
use Rattle.proof_reader.proofs.ReadLaws.{left_all}
use Rattle.proof_reader.proofs.count_lines.Goals as goal

pub count-requires-clause-fits : goal.count-requires-clause-fits
count-requires-clause-fits c = inl (omega (arith, left_all c.args.lines.now))

pub returns : goal.returns
returns c = count_from_yields_List _ _ c.count.ensures.ran (YieldsList-from_first (λ x. x) lines_left _ refl) ∙ left_all c.args.lines.now
