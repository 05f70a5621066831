-- `proof_check::walk` meets its contract: the invariant is `Walking`: the lines passed are `checked`, with the claims that the array holds.
use Rattle.std.proofs.Common.{sym, arith}
use Rattle.proof_check.proofs.WalkLaws.{walking_broken, walking_more, walking_end}
use Rattle.proof_check.proofs.walk.Goals as goal

pub returns-in_default-claim-clause-end : goal.returns-in_default-claim-clause-end
returns-in_default-claim-clause-end c =
    walking_broken _ _ _ _ c.loop-i.invariant (omega arith) c.in-Some.l (sym c.in-Some.ensures) c.in_default-claim.ensures

pub loop-i-preserved : goal.loop-i-preserved
loop-i-preserved c =
    walking_more _ _ _ _ c.loop-i.invariant (omega arith) c.in-Some.l (sym c.in-Some.ensures) c.in-Some-claim.c c.in-Some-claim.ensures

pub returns-clause-end : goal.returns-clause-end
returns-clause-end c = walking_end _ _ _ _ _ c.loop-i.invariant (omega arith) (omega arith) (omega arith)
