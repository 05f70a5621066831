-- `Workspace::refusal` meets its contract: by its tests in turn.
use Rattle.std.proofs.Common.{sym, ◌∙◌}
use mathlib.Core.Path.{ap}
use mathlib.Core.Bool.{not}
use Rattle.proof_rules.specs.Rules.{offer_of}
use Rattle.proof_check.specs.Answers.{goal_of}
use Rattle.unifier.proofs.Laws.{found_tells}
use Rattle.unifier.proofs.CheckLaws.{asked_offer, asked_goal, asked_name, asked_well, new_of_none, new_of_some}
use Rattle.unifier.proofs.Workspace.refusal.Goals as goal

pub returns-then-not-offer_below : goal.returns-then-not-offer_below
returns-then-not-offer_below c =
    let a = c.args in
    asked_offer a.self.now (offer_of a.offer) (goal_of a.goal) (sym c.offer_below.ensures ∙ c.if-not-offer_below.true)

pub returns-then-not-goal_below : goal.returns-then-not-goal_below
returns-then-not-goal_below c =
    let a = c.args in
    asked_goal a.self.now (offer_of a.offer) (goal_of a.goal) (sym c.offer_below.ensures ∙ c.if-not-offer_below.false) (sym c.goal_below.ensures ∙ c.if-not-goal_below.true)

pub returns-in_default : goal.returns-in_default
returns-in_default c =
    let a = c.args in
    asked_well a.self.now (offer_of a.offer) (goal_of a.goal) (sym c.offer_below.ensures ∙ c.if-not-offer_below.false) (sym c.goal_below.ensures ∙ c.if-not-goal_below.false)
    (new_of_none a.self.now a.offer c.in_default.is)

pub returns-then-is_some : goal.returns-then-is_some
returns-then-is_some c =
    let a = c.args in
    asked_name a.self.now (offer_of a.offer) (goal_of a.goal) (sym c.offer_below.ensures ∙ c.if-not-offer_below.false) (sym c.goal_below.ensures ∙ c.if-not-goal_below.false)
    (new_of_some a.self.now a.offer _ c.in-Some.is ∙ ap not (found_tells _ _ _ c.find.ensures ∙ sym c.is_some.ensures ∙ c.if-is_some.true))

pub returns : goal.returns
returns c =
    let a = c.args in
    asked_well a.self.now (offer_of a.offer) (goal_of a.goal) (sym c.offer_below.ensures ∙ c.if-not-offer_below.false) (sym c.goal_below.ensures ∙ c.if-not-goal_below.false)
    (new_of_some a.self.now a.offer _ c.in-Some.is ∙ ap not (found_tells _ _ _ c.find.ensures ∙ sym c.is_some.ensures ∙ c.if-is_some.false))
