-- `write_same::write_reason` meets its contract.
use Rattle.write_same.proofs.EntryLaws.{equation_written, children_written}
use Rattle.write_same.proofs.write_reason.Goals as goal

pub returns-in-Equation : goal.returns-in-Equation
returns-in-Equation c = equation_written c.in-Equation.is (rw c.from.ensures at c.equation.ensures) c.put.ensures

pub returns-in-Children : goal.returns-in-Children
returns-in-Children c =
    children_written c.in-Children.is c.down.ensures (rw (c.from-in-Children.ensures, c.from-in-Children-2.ensures) at c.link-parents.ensures)
    c.put-in-Children.ensures
