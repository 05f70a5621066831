-- `write_same::explain_same` meets its contract.
use borrow.Author.Rules.{rules}
use Rattle.write_same.proofs.RetraceLaws.{explained}
use Rattle.write_same.proofs.explain_same.Goals as goal

pub returns : goal.returns
returns c = explained c.prepare-pen.ensures.prepared (rw (c.from.ensures, c.from-2.ensures) at c.link.ensures) (search rules)
