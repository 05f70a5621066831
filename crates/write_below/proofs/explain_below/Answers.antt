-- `write_below::explain_below` meets its contract.
use Rattle.std.proofs.Common.{◌∙◌}
use borrow.Author.Rules.{rules}
use Rattle.write_below.proofs.StepLaws.{upper_small, on_nodes}
use Rattle.write_below.proofs.WayLaws.{pairs_on_nodes, lowered}
use Rattle.write_below.proofs.explain_below.Goals as goal

pub prepare-pen-requires-clause-u_bound : goal.prepare-pen-requires-clause-u_bound
prepare-pen-requires-clause-u_bound c =
    let L = c.way_up.ensures in (
      c.requires.u_bound.0,
      rw (c.top_of-top.ensures 0, c.as_slice-steps.ensures.value) (upper_small 0 c.way_up.new.way.items L.some_steps (on_nodes c.requires.table c.requires.ways.0 L)),
    )

pub prepare-pen-requires-clause-pairs : goal.prepare-pen-requires-clause-pairs
prepare-pen-requires-clause-pairs c =
    pairs_on_nodes c.way_up.new.way.items (rw c.as_slice-steps.ensures.value at (c.as_slice.ensures.value ∙ c.put_pairs.ensures))
    (on_nodes c.requires.table c.requires.ways.0 c.way_up.ensures)

pub returns : goal.returns
returns c =
    let e = c.as_slice-steps.ensures.value in
    lowered c.requires.table c.way_up.ensures (rw e at (c.top_of-top.ensures c.args.v))
    (rw e at (c.as_slice.ensures.value ∙ c.put_pairs.ensures)) c.prepare-pen.ensures.prepared (rw e at c.ascend.ensures) (search rules)
