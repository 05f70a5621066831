-- `BoundedList::pop` meets its contract.
use borrow.Author.Rules.{rules}
use Rattle.bounded_list.proofs.CellLaws.{popped}
use Rattle.bounded_list.proofs.BoundedList.pop.Goals as goal

pub invariant_of-self : goal.invariant_of-self
invariant_of-self g c = popped c.self.invariant (search rules)
