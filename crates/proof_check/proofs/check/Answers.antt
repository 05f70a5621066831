-- `proof_check::check` meets its contract: refusals 11, 12 and 13 in turn.
use Rattle.std.proofs.Common.{◌≡◌, ◌∙◌, sym, ap, rules}
use Rattle.graph.specs.Goals.{breaks, broken_line}
use Rattle.proof_rules.specs.Rules.{claim_seen}
use Rattle.proof_check.specs.Answers.{judged_as, walked}
use Rattle.proof_check.proofs.AnswerLaws.{answer_bad, answered, answered_end, walk_broken, walk_through}
use Rattle.proof_check.proofs.check.Goals as goal

pub returns-then-bad_length-clause-answer : goal.returns-then-bad_length-clause-answer
returns-then-bad_length-clause-answer c = answer_bad _ _ _ (sym c.if-bad_length.ensures)

pub returns-in_err-last-clause-answer : goal.returns-in_err-last-clause-answer
returns-in_err-last-clause-answer c =
    let b = walk_broken _ c.walk.result _ _ c.map_err.ensures.cases c.in_err-last.was in
    let k : judged_as c.from_residual.result ≡ broken_line b.0 = search rules in
    k ∙ answered _ _ _ (sym c.if-bad_length.ensures) (breaks b.0) (ap walked (sym b.1) ∙ c.walk.ensures.end)

pub returns-then-shows_goal-clause-answer : goal.returns-then-shows_goal-clause-answer
returns-then-shows_goal-clause-answer c =
    answered_end _ _ _ (sym c.if-bad_length.ensures) (claim_seen c.in_ok-last.last) _ c.if-shows_goal.ensures
    (ap walked (sym (walk_through _ c.walk.result _ _ c.map_err.ensures.cases c.in_ok-last.was)) ∙ c.walk.ensures.end)

pub returns-else-shows_goal-clause-answer : goal.returns-else-shows_goal-clause-answer
returns-else-shows_goal-clause-answer c =
    answered_end _ _ _ (sym c.if-bad_length.ensures) (claim_seen c.in_ok-last.last) _ c.if-shows_goal.ensures
    (ap walked (sym (walk_through _ c.walk.result _ _ c.map_err.ensures.cases c.in_ok-last.was)) ∙ c.walk.ensures.end)
