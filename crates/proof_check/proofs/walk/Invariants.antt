-- `proof_check::walk` meets its contract: the invariant is `Walking`: the lines passed are `checked`, with the claims that the array holds.
use Rattle.graph.specs.State.{with_offer}
use Rattle.store.specs.Views.{state_from}
use Rattle.proof_rules.specs.Rules.{offer_of}
use Rattle.proof_check.proofs.WalkLaws.{Walking}
use Rattle.proof_check.proofs.walk.Given as goal

abbrev pub invariant-loop-i : goal.invariant-loop-i
invariant-loop-i l = Walking (with_offer (state_from l.t l.e) (offer_of l.offer)) l.bytes l.claims l.i
