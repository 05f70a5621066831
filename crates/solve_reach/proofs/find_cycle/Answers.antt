-- `solve_reach::find_cycle` meets its contract: no functor node below u lies below itself.
use native.Mathlib.Omega.{arith}
use Rattle.solve_reach.proofs.SearchLaws.{cycle_functor}
use Rattle.solve_reach.proofs.find_cycle.Goals as goal

pub returns : goal.returns
returns c = λ s N E C.
    let W = cycle_functor _ s N C.u C.back in
    c.loop-u.invariant s N E W.0 (omega (arith, W.1.0.known)) W.1.0 W.1.1
