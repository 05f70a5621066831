-- `Workspace::stand` meets its contract.
use Rattle.std.proofs.Common.{arith, sym, ◌∙◌}
use Rattle.unifier.proofs.Laws.{examined_well, solved_valid}
use Rattle.unifier.proofs.CompareLaws.{refused_unknown, known, told}
use Rattle.unifier.proofs.Workspace.stand.Goals as goal

pub returns-then-not-both_below : goal.returns-then-not-both_below
returns-then-not-both_below c =
    let a = c.args in
    let s = examined_well _ _ _ _ c.in_ok-table.was c.examined.ensures in
    refused_unknown a.self.now a.u a.v a.proof.now (solved_valid _ _ _ s) c.if-proof-lt-BUFFER.false (sym c.both_below.ensures ∙ c.if-not-both_below.true)

pub stand-s-requires-clause-known : goal.stand-s-requires-clause-known
stand-s-requires-clause-known c =
    let a = c.args in
    let s = examined_well _ _ _ _ c.in_ok-table.was c.examined.ensures in
    rw c.as_slice.ensures.value (known a.self.now a.u a.v a.proof.now _ _ s (sym c.both_below.ensures ∙ c.if-not-both_below.false))

pub returns : goal.returns
returns c =
    let a = c.args in
    let s = examined_well _ _ _ _ c.in_ok-table.was c.examined.ensures in
    told a.self.now a.u a.v a.proof.now _ _ s (sym c.both_below.ensures ∙ c.if-not-both_below.false) (omega (arith, c.if-proof-lt-BUFFER.false)) _ _ c.stand-s.ensures
