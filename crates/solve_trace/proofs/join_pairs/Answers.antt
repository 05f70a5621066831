-- `solve_trace::join_pairs` meets its contract: after k turns the first k pairs are joined.
use Rattle.std.proofs.Common.{rules, ℕ, length, get_or, arith, length-append}
use Rattle.solve_trace.proofs.LoopLaws.{numbered_turn}
use Rattle.solve_trace.proofs.StepLaws.{pairs_more}
use Rattle.solve_trace.proofs.join_pairs.Goals as goal

pub loop-k-preserved : goal.loop-k-preserved
loop-k-preserved g c =
    let xs = c.args.left.now in
    let ys = c.args.right.now in
    let n = length c.loop-k.yielded in
    let w = numbered_turn xs ys c.loop-k.yielded c.into_iter-k-iterator.result c.loop-k.k-iterator c.next.new.self c.next.result (search rules) (search rules) (search rules) c.loop-k.yielded_by _ c.in-Some.is c.next.ensures.steps in
    rw length-append (pairs_more _ (λ (j : ℕ). get_or xs j 0) (λ (j : ℕ). get_or ys j 0) n (w.3 0) (w.4 0) (λ j h. c.requires.by_index j (omega (arith, w.1))) (λ s G. G n _ _ w.1 (rw w.0 at c.reason.ensures) c.loop-k.invariant.extends.grows) c.loop-k.invariant c.join.ensures)
