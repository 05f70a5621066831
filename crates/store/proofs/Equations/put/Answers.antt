-- `store::Equations::put` meets its contract.
use Rattle.store.proofs.PutEquationLaws.{puts_equation}
use borrow.Author.Rules.{rules}
use Rattle.store.proofs.Equations.put.Goals as goal

pub returns : goal.returns
returns c =
    puts_equation c.args.self.now c.args.name c.args.left c.args.right (record { names = search rules; lefts = search rules; rights = search rules }) c.requires
