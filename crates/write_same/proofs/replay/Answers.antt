-- `write_same::replay` meets its contract: after k turns the table and the lines are those of the first k entries.
use mathlib.Core.Path.{refl}
use Prim.Native.Nat.{◌≤◌}
use native.Mathlib.Omega.{arith}
use borrow.Author.Rules.{rules}
use Rattle.write_same.proofs.RetraceLaws.{rising, retracing_none, retracing_more, retraced}
use Rattle.write_same.proofs.replay.Goals as goal

pub loop-entry-init : goal.loop-entry-init
loop-entry-init c = retracing_none c.fresh-table.ensures

pub step-requires-clause-room : goal.step-requires-clause-room
step-requires-clause-room c =
    let R = c.loop-entry.invariant in
    let k : c.loop-entry.entry-index ≤ 63 = omega (arith, c.args.grounds.now.few_entries) in
    omega (arith, R.high, rising c.loop-entry.entry-index k, c.requires.0)

pub loop-entry-preserved : goal.loop-entry-preserved
loop-entry-preserved c =
    retracing_more c.loop-entry.invariant c.args.grounds.now.trace.now _ refl (search rules) (search rules)
    c.ends_of-a.ensures.left c.ends_of-a.ensures.right c.step.ensures c.merge-next.ensures

pub returns : goal.returns
returns c = retraced c.loop-entry.invariant (search rules)
