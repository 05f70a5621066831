-- `solve_reach::reach` meets its contract.
use native.Mathlib.Omega.{arith}
use borrow.Author.Rules.{rules}
use Rattle.solve_reach.proofs.ReachLaws.{reach_start, all_explored}
use Rattle.solve_reach.proofs.reach.Goals as goal

pub run-requires-clause-between : goal.run-requires-clause-between
run-requires-clause-between c = rw c.lend.ensures (reach_start _ _ c.requires.table c.requires.formed _ (omega (arith, c.from.ensures, c.requires.known)))

pub run-requires-clause-full : goal.run-requires-clause-full
run-requires-clause-full c = λ w R h p l. all_explored _ _ w R h p

pub returns : goal.returns
returns c = rw (← c.lend.ensures) (search rules)
