-- `solve_heights::peel` meets its contract.
use Rattle.solve_heights.proofs.EndLaws.{all_released, peel_ends}
use native.Mathlib.Omega.{arith}
use Rattle.solve_heights.proofs.peel.Goals as goal

pub run-requires-clause-full : goal.run-requires-clause-full
run-requires-clause-full c = λ w P l. all_released _ _ w P (omega (arith, l, P.total, c.count_nodes.ensures.total))

pub returns : goal.returns
returns c =
    let P = c.run.ensures.between in
    peel_ends _ _ _ P c.run.ensures.closed _ (omega (arith, P.total, c.count_nodes.ensures.total))
