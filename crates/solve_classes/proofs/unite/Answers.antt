-- `solve_classes::unite` meets its contract.
use borrow.Author.Rules.{rules}
use Rattle.solve_classes.proofs.MergeLaws.{unite_up, unite_down}
use Rattle.solve_classes.proofs.unite.Goals as goal

pub returns-then-c-d : goal.returns-then-c-d
returns-then-c-d c = λ a b ha hb e f. unite_up _ _ _ _ a b (search rules) ha hb e f (search rules) c.relabel.ensures

pub returns-else-c-d : goal.returns-else-c-d
returns-else-c-d c = λ a b ha hb e f. unite_down _ _ _ _ a b (search rules) ha hb e f c.if-c-d.false c.relabel-else-c-d.ensures
