-- `shorter_reply` meets its contract: by each list's reply in turn.
use Rattle.std.proofs.Common.{rules, arith}
use Rattle.proof_rules.specs.Rules.{offer_of}
use Rattle.proof_check.specs.Answers.{goal_of}
use Rattle.proof_shorter.proofs.ChoiceLaws.{first_refused, second_refused, chosen, fewer_second, fewer_first}
use Rattle.proof_shorter.proofs.shorter_reply.Goals as goal

pub returns-in_err-passes : goal.returns-in_err-passes
returns-in_err-passes c =
    let a = c.args in
    first_refused a.w (offer_of a.offer) (goal_of a.goal) a.first.now a.second.now _ c.in_err-passes.was c.passes.ensures (search rules)

pub returns-in_err-passes-2 : goal.returns-in_err-passes-2
returns-in_err-passes-2 c =
    let a = c.args in
    second_refused a.w (offer_of a.offer) (goal_of a.goal) a.first.now a.second.now _ c.in_ok-passes.was c.passes.ensures c.in_err-passes-2.was c.passes-2.ensures (search rules)

pub returns-then-second-first : goal.returns-then-second-first
returns-then-second-first c =
    let a = c.args in
    chosen a.w (offer_of a.offer) (goal_of a.goal) a.first.now a.second.now _ c.in_ok-passes.was c.passes.ensures c.in_ok-passes-2.was c.passes-2.ensures
    (fewer_second a.first.now a.second.now (omega (arith, c.if-second-first.true)))

pub returns : goal.returns
returns c =
    let a = c.args in
    chosen a.w (offer_of a.offer) (goal_of a.goal) a.first.now a.second.now _ c.in_ok-passes.was c.passes.ensures c.in_ok-passes-2.was c.passes-2.ensures
    (fewer_first a.first.now a.second.now (omega (arith, c.if-second-first.false)))
