-- `eqtrace_answers::Draft::put_bytes` meets its contract.
use mathlib.Core.Path.{refl}
use Rattle.eqtrace_answers.proofs.PutLaws.{adds_put}
use Rattle.eqtrace_answers.proofs.Draft.put_bytes.Goals as goal

pub returns : goal.returns
returns c = adds_put _ _ c.copy_from_slice.ensures.after c.requires refl refl refl
