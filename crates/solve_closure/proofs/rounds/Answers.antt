-- `solve_closure::rounds` meets its contract: each round but the last lengthens the trace, which has at most 63 entries.
use Rattle.std.proofs.Common.{rules, arith}
use Rattle.solve_closure.proofs.VisitLaws.{rounds_end}
use Rattle.solve_closure.proofs.rounds.Goals as goal
use Rattle.solve_closure.proofs.rounds.Goals.{then-is_some-via-then-is_some, then-is_some-via-else-is_some+then-len-before}

pub returns-then-is_some : goal.returns-then-is_some
returns-then-is_some c =
    rounds_end _ _ _ c.loop-trace.invariant c.round-clash.ensures
    (elim c.then-is_some.branch [
      | then-is_some-via-then-is_some w ↦ λ q. search rules
      | then-is_some-via-else-is_some+then-len-before w ↦ λ q. omega (arith, w.len.ensures, w.if-len-before, c.len-before.ensures)
    ])
