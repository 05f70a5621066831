-- `solve_closure::settle_offered` meets its contract: the entry of the offered equation, then rounds.
use Rattle.std.proofs.Common.{arith}
use Rattle.solve_trace.proofs.StepLaws.{joins_ready}
use Rattle.solve_closure.proofs.OfferLaws.{solved_offered}
use Rattle.solve_closure.proofs.settle_offered.Goals as goal

pub rounds-clash-requires-clause-trace_fits : goal.rounds-clash-requires-clause-trace_fits
rounds-clash-requires-clause-trace_fits c =
    let A = c.requires in
    joins_ready (omega (arith, A.left, A.formed.most)) (omega (arith, A.right, A.formed.most)) A.ready c.join.ensures

pub returns-clause-settled : goal.returns-clause-settled
returns-clause-settled c = solved_offered _ _ _ _ _ _ c.requires c.join.ensures c.rounds-clash.ensures
