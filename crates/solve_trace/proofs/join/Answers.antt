-- `solve_trace::join` meets its contract.
use Rattle.std.proofs.Common.{rules}
use Rattle.solve_trace.specs.Steps.{idle, grown}
use Rattle.solve_trace.proofs.StepLaws.{ready_room}
use Rattle.solve_trace.proofs.join.Goals as goal

pub push-requires : goal.push-requires
push-requires c = search (rules, ready_room c.requires.trace_fits)

pub returns-then-first-second : goal.returns-then-first-second
returns-then-first-second c =
    let b = c.requires.x_bound in
    rw c.push.ensures (grown (λ q. c.if-first-second.true (cc)) (c.unite.ensures _ _ b.0 b.1 (cc) (cc)))

pub returns-else-first-second : goal.returns-else-first-second
returns-else-first-second c = idle (cc)
