-- `proof_rules::by_equation` meets its contract: rule 1, by the first place of the name.
use Rattle.proof_rules.specs.Rules.{offer_of}
use Rattle.proof_rules.proofs.NameLaws.{equation_held, equation_offered}
use native.Mathlib.Omega.{arith}
use Rattle.proof_rules.proofs.by_equation.Goals as goal

pub returns-in-Some : goal.returns-in-Some
returns-in-Some c =
    rw c.same.ensures (equation_held c.args.e.now c.args.x _ (offer_of c.args.o) c.in-Some.ensures.0 c.in-Some.ensures.1)

pub returns-in-None : goal.returns-in-None
returns-in-None c = equation_offered c.args.e.now c.args.x _ (offer_of c.args.o) c.in-None.ensures (omega arith) _ c.by_offer.ensures
