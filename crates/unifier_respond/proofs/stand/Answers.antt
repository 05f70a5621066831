-- `unifier_respond::stand` meets its contract: one class, below, above, or apart.
use mathlib.Core.Path.{ap, ◌∙◌}
use native.Mathlib.Omega.{arith}
use Rattle.solve_classes.specs.Table.{class}
use Rattle.unifier_respond.proofs.ShowLaws.{goal_same, goal_below_lem}
use Rattle.unifier_respond.proofs.StandLaws.{told, told_not, stand_same, stand_below, stand_above, stand_apart}
use Rattle.unifier_respond.proofs.stand.Goals as goal

pub overflow_cast-result : goal.overflow_cast-result
overflow_cast-result c = omega (arith, (goal_same _ _ _ c.show_same-lines.ensures).few)

pub returns-then-a-b : goal.returns-then-a-b
returns-then-a-b c =
    let ea = c.from-a.ensures ∙ ap (class c.args.table) c.from.ensures in
    let eb = c.from-b.ensures ∙ ap (class c.args.table) c.from-2.ensures in
    stand_same _ _ _ _ _ _ c.requires.known (rw (ea, eb) at c.if-a-b.true) _ _ _ (goal_same _ _ _ c.show_same-lines.ensures)

pub overflow_cast-result-then-is_some : goal.overflow_cast-result-then-is_some
overflow_cast-result-then-is_some c = omega (arith, (goal_below_lem _ _ _ c.show_below-lines.ensures).few)

pub returns-then-is_some : goal.returns-then-is_some
returns-then-is_some c =
    let ea = c.from-a.ensures ∙ ap (class c.args.table) c.from.ensures in
    let eb = c.from-b.ensures ∙ ap (class c.args.table) c.from-2.ensures in
    stand_below _ _ _ _ _ _ c.requires.known (rw (ea, eb) at c.if-a-b.false) c.reach-down.ensures (rw (← eb) (told c.is_some.ensures c.if-is_some.true)) _ _ _ (goal_below_lem _ _ _ c.show_below-lines.ensures)

pub overflow_cast-result-then-is_some-2 : goal.overflow_cast-result-then-is_some-2
overflow_cast-result-then-is_some-2 c =
    omega (arith, (goal_below_lem _ _ _ c.show_below-lines-then-is_some-2.ensures).few)

pub returns-then-is_some-2 : goal.returns-then-is_some-2
returns-then-is_some-2 c =
    let ea = c.from-a.ensures ∙ ap (class c.args.table) c.from.ensures in
    let eb = c.from-b.ensures ∙ ap (class c.args.table) c.from-2.ensures in
    stand_above _ _ _ _ _ _ c.requires.known (rw (ea, eb) at c.if-a-b.false) c.reach-down.ensures (rw (← eb) (told_not c.is_some.ensures c.if-is_some.false)) c.reach-up.ensures (rw (← ea) (told c.is_some-2.ensures c.if-is_some-2.true)) _ _ _
    (goal_below_lem _ _ _ c.show_below-lines-then-is_some-2.ensures)

pub returns : goal.returns
returns c =
    let ea = c.from-a.ensures ∙ ap (class c.args.table) c.from.ensures in
    let eb = c.from-b.ensures ∙ ap (class c.args.table) c.from-2.ensures in
    stand_apart _ _ _ _ _ _ c.requires.known (rw (ea, eb) at c.if-a-b.false) c.reach-down.ensures (rw (← eb) (told_not c.is_some.ensures c.if-is_some.false)) c.reach-up.ensures (rw (← ea) (told_not c.is_some-2.ensures c.if-is_some-2.false)) _
