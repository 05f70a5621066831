-- `write_same::prepare` meets its contract.
use Rattle.write_needed.specs.Entries.{InRange}
use Rattle.write_needed.proofs.TrimLaws.{among_all}
use Rattle.write_same.proofs.RetraceLaws.{prepared}
use Rattle.write_same.proofs.prepare.Goals as goal

pub trim-requires-clause-in_range : goal.trim-requires-clause-in_range
trim-requires-clause-in_range c = rw (c.extend_from_slice.ensures, c.new-needed.ensures) c.args.grounds.now.in_range

pub invariant_of-replay-clause-in_range : goal.invariant_of-replay-clause-in_range
invariant_of-replay-clause-in_range c =
    let G = c.args.grounds.now in
    let T = rw (c.extend_from_slice.ensures, c.new-needed.ensures) at c.trim.ensures in
    rw c.as_slice.ensures.value (among_all (InRange G.t.now G.e.now) _ _ T.among G.in_range)

pub returns-clause-prepared : goal.returns-clause-prepared
returns-clause-prepared c =
    let T = rw (c.extend_from_slice.ensures, c.new-needed.ensures) at c.trim.ensures in
    prepared c.args.grounds.now.few_entries T c.start-pen.ensures.started (rw c.as_slice.ensures.value at c.replay.ensures)
