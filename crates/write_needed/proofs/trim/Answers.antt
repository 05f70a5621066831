-- `write_needed::trim` meets its contract: after each turn what is kept joins all that the whole did.
use mathlib.Core.Path.{ap}
use Rattle.std.proofs.Common.{◌-◌, arith}
use Rattle.write_needed.proofs.TrimLaws.{trimmed_none, trimmed_more, parts_in_range}
use Rattle.write_needed.proofs.trim.Goals as goal

pub loop-k-init : goal.loop-k-init
loop-k-init c = (omega (arith, c.len-k.ensures.value), trimmed_none)

pub joins-requires-clause-in_range : goal.joins-requires-clause-in_range
joins-requires-clause-in_range c =
    parts_in_range c.as_slice-kept.result.now (c.loop-k.k - 1) c.loop-k.invariant.1 c.as_slice-kept.ensures.value c.requires.in_range

pub loop-k-preserved-then-joins : goal.loop-k-preserved-then-joins
loop-k-preserved-then-joins c =
    trimmed_more c.as_slice-kept.result.now (c.loop-k.k - 1) c.loop-k.invariant.1 c.as_slice-kept.ensures.value
    (omega (arith, c.loop-k.invariant.0)) (ap (λ v. v.items) c.remove.ensures) (c.joins.ensures c.if-joins.true)
