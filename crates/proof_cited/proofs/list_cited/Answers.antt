-- `proof_cited::list_cited` meets its contract: blank tables, lent, then the list of what was noted.
use Rattle.proof_cited.proofs.ListLaws.{names_cited}
use Rattle.proof_cited.proofs.list_cited.Goals as goal

pub returns : goal.returns
returns c = record {
  cited = names_cited _ _ _ _ c.mark_back.ensures c.list_names.ensures;
  fits = (c.list_names.ensures.few, c.list_names.ensures.fits);
}
