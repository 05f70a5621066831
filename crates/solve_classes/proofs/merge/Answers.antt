-- `solve_classes::merge` meets its contract.
use borrow.Author.Rules.{rules}
use Rattle.solve_classes.proofs.merge.Goals as goal

pub returns : goal.returns
returns c = c.unite.ensures _ _ (search rules) (search rules) (search rules) (search rules)
