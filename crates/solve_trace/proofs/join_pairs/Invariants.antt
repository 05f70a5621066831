-- `solve_trace::join_pairs` meets its contract: after k turns the first k pairs are joined.
use Rattle.std.proofs.Common.{ℕ, length, get_or}
use Rattle.solve_trace.specs.Steps.{PairsJoined, Gives}
use Rattle.solve_trace.proofs.join_pairs.Given as goal

abbrev pub invariant-loop-k : goal.invariant-loop-k
invariant-loop-k g l =
    PairsJoined (Gives (goal.F-post g l.reason) l.left l.right l.initial.table) (λ (j : ℕ). get_or l.left j 0) (λ (j : ℕ). get_or l.right j 0) (length l.yielded) l.initial.table l.initial.trace.items l.table l.trace.items
