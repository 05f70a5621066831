-- `solve_closure::settle` meets its contract: equations from the fresh table, then rounds.
use Rattle.std.proofs.Common.{arith}
use Rattle.solve_classes.proofs.CountLaws.{classes_most}
use Rattle.solve_closure.proofs.SettledLaws.{solved}
use Rattle.solve_closure.proofs.settle.Goals as goal

pub join_equations-table-requires-clause-trace_fits : goal.join_equations-table-requires-clause-trace_fits
join_equations-table-requires-clause-trace_fits c =
    rw c.clear.ensures (record { table = c.fresh.ensures.table; room = omega (arith, classes_most c.fresh.result) })

pub returns-clause-settled : goal.returns-clause-settled
returns-clause-settled c =
    solved _ _ _ c.requires c.fresh.ensures (rw c.clear.ensures at c.join_equations-table.ensures) c.rounds-clash.ensures
