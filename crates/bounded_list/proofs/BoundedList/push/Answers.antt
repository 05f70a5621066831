-- `BoundedList::push` meets its contract.
use borrow.Author.Rules.{rules}
use Rattle.bounded_list.proofs.CellLaws.{pushed}
use Rattle.bounded_list.proofs.BoundedList.push.Goals as goal

pub invariant_of-self : goal.invariant_of-self
invariant_of-self g c = pushed c.self.invariant _ (search rules)
