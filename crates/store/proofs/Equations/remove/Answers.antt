-- `store::Equations::remove` meets its contract.
use borrow.Author.Rules.{rules}
use Rattle.store.proofs.RemoveLaws.{removes, missing}
use Rattle.store.proofs.Equations.remove.Goals as goal

pub returns-in_default : goal.returns-in_default
returns-in_default c = missing c.args.self.now c.args.name c.args.self.now.count c.in_default.ensures (search rules)

pub returns : goal.returns
returns c =
    rw (c.close.ensures, c.close-2.ensures, c.close-3.ensures)
    (removes c.args.self.now c.args.name c.in-Some.k c.in-Some.ensures.0 c.in-Some.ensures.1)
