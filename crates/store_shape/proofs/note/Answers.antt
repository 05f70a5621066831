-- `store_shape::note` meets its contract.
use Rattle.store_shape.proofs.BitLaws.{noted}
use borrow.Author.Rules.{rules}
use Rattle.store_shape.proofs.note.Goals as goal

pub returns : goal.returns
returns c = let a = c.args in rw c.from-w.ensures (noted a.seen.now a.x (search rules))
