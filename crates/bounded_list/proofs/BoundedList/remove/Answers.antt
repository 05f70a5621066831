-- `BoundedList::remove` meets its contract.
use mathlib.Core.Path.{◌∙◌, ap}
use lib.ListN.{take}
use borrow.Author.Rules.{rules}
use Rattle.bounded_list.specs.Bounded.{holding}
use Rattle.bounded_list.proofs.CellLaws.{moved, moved_items}
use Rattle.bounded_list.proofs.BoundedList.remove.Goals as goal

pub invariant_of-self : goal.invariant_of-self
invariant_of-self g c = rw c.copy_within.ensures.after (moved c.self.invariant _ (search rules))

pub returns : goal.returns
returns g c =
    let moves = ap (take c.self.inside.count) c.copy_within.ensures.after in
    c.pop.ensures ∙ rw (← c.self.view_is) (ap (λ xs. holding xs c.self.inside.blank) (moved_items c.self.invariant _ (search rules) _ moves))
