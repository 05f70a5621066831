-- `proof_claims::claim` meets its contract: each rule is the one of `claim_of`, once the line is tidy.
use Rattle.std.proofs.Common.{◌∙◌}
use Rattle.proof_lines.specs.declared.Rule.TheVariants.{Equation, Child, Reflexivity, Symmetry, Transitivity, Down}
use Rattle.proof_rules.proofs.NodeLaws.{reflexivity_by}
use Rattle.proof_claims.proofs.RuleLaws.{claim_untidy, claim_unruled, claim_ruled}
use Rattle.proof_claims.proofs.claim.Goals as goal

pub returns-then-not-tidy : goal.returns-then-not-tidy
returns-then-not-tidy c = claim_untidy _ _ _ _ c.tidy.ensures c.if-not-tidy.true

pub returns-in_default : goal.returns-in_default
returns-in_default c = claim_unruled _ _ _ c.in_default.ensures

pub returns-in-Equation : goal.returns-in-Equation
returns-in-Equation c = claim_ruled _ _ _ _ c.tidy.ensures c.if-not-tidy.false _ Equation c.in-Ok.ensures c.in-Equation.is _ c.by_equation.ensures

pub returns-in-Child : goal.returns-in-Child
returns-in-Child c = claim_ruled _ _ _ _ c.tidy.ensures c.if-not-tidy.false _ Child c.in-Ok.ensures c.in-Child.is _ c.by_child.ensures

pub returns-in-Reflexivity : goal.returns-in-Reflexivity
returns-in-Reflexivity c =
    claim_ruled _ _ _ _ c.tidy.ensures c.if-not-tidy.false _ Reflexivity c.in-Ok.ensures c.in-Reflexivity.is _
    (c.by_reflexivity.ensures ∙ reflexivity_by c.args.t.now c.args.l.now.fields.first)

pub returns-in-Symmetry : goal.returns-in-Symmetry
returns-in-Symmetry c = claim_ruled _ _ _ _ c.tidy.ensures c.if-not-tidy.false _ Symmetry c.in-Ok.ensures c.in-Symmetry.is _ c.by_symmetry.ensures

pub returns-in-Transitivity : goal.returns-in-Transitivity
returns-in-Transitivity c =
    claim_ruled _ _ _ _ c.tidy.ensures c.if-not-tidy.false _ Transitivity c.in-Ok.ensures c.in-Transitivity.is _ c.by_transitivity.ensures

pub returns-in-Down : goal.returns-in-Down
returns-in-Down c = claim_ruled _ _ _ _ c.tidy.ensures c.if-not-tidy.false _ Down c.in-Ok.ensures c.in-Down.is _ c.by_down.ensures
