-- `Workspace::early` meets its contract: by its tests in turn.
use Rattle.std.proofs.Common.{arith, sym, ◌∙◌}
use Rattle.unifier.specs.Inner.{equation_in}
use Rattle.unifier.proofs.Laws.{found_tells, early_unknown, early_name, early_full, early_none}
use Rattle.unifier.proofs.Workspace.early.Goals as goal

pub returns-then-not-both_below : goal.returns-then-not-both_below
returns-then-not-both_below c =
    let a = c.args in
    early_unknown a.self.now (equation_in a.offer) a.room c.if-room-lt-BUFFER.false (sym c.both_below.ensures ∙ c.if-not-both_below.true)

pub returns-then-is_some : goal.returns-then-is_some
returns-then-is_some c =
    let a = c.args in
    early_name a.self.now (equation_in a.offer) a.room c.if-room-lt-BUFFER.false (sym c.both_below.ensures ∙ c.if-not-both_below.false)
    (found_tells _ _ _ c.find.ensures ∙ sym c.is_some.ensures ∙ c.if-is_some.true)

pub returns-then-self-ge-EQUATIONS : goal.returns-then-self-ge-EQUATIONS
returns-then-self-ge-EQUATIONS c =
    let a = c.args in
    early_full a.self.now (equation_in a.offer) a.room c.if-room-lt-BUFFER.false (sym c.both_below.ensures ∙ c.if-not-both_below.false)
    (found_tells _ _ _ c.find.ensures ∙ sym c.is_some.ensures ∙ c.if-is_some.false) c.if-self-ge-EQUATIONS.true

pub returns : goal.returns
returns c =
    let a = c.args in
    early_none a.self.now (equation_in a.offer) a.room c.if-room-lt-BUFFER.false (sym c.both_below.ensures ∙ c.if-not-both_below.false)
    (found_tells _ _ _ c.find.ensures ∙ sym c.is_some.ensures ∙ c.if-is_some.false) (omega (arith, c.if-self-ge-EQUATIONS.false))
