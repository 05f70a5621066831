-- `eqtrace_answers::Draft::put_names` meets its contract.
use Rattle.eqtrace_answers.proofs.PutLaws.{listing_none, listing_more}
use Rattle.eqtrace_answers.proofs.Draft.put_names.Goals as goal

pub loop-name-init : goal.loop-name-init
loop-name-init c = listing_none _ _ c.requires

pub loop-name-preserved : goal.loop-name-preserved
loop-name-preserved c = listing_more _ _ _ _ c.loop-name.invariant c.loop-name-test.true _ c.from.ensures _ c.put_number.ensures
