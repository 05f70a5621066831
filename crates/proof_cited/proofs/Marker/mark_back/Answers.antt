-- `proof_cited::Marker::mark_back` meets its contract: the lines from k on are handled.
use Rattle.std.proofs.Common.{refl, arith}
use Rattle.proof_cited.proofs.BackLaws.{marking_start, marking_skip, marking_visit, marking_end}
use Rattle.proof_cited.proofs.Marker.mark_back.Goals as goal

pub loop-k-init : goal.loop-k-init
loop-k-init c =
    let pre = c.requires in
    marking_start _ _ _ pre.0 pre.1 pre.2 refl refl

pub loop-k-preserved-then-self-k : goal.loop-k-preserved-then-self-k
loop-k-preserved-then-self-k c =
    marking_visit _ _ _ c.loop-k.invariant c.loop-k-test.true c.if-self-k.true c.requires.2 (λ i. omega (arith, c.type_inv.bytes i)) _ c.visit.ensures

pub loop-k-preserved : goal.loop-k-preserved
loop-k-preserved c = marking_skip _ _ _ c.loop-k.invariant c.loop-k-test.true c.if-self-k.false

pub returns : goal.returns
returns c = marking_end _ _ _ c.loop-k.invariant c.loop-k-test.false c.requires.2
