-- `Workspace::class_in` meets its contract.
use Rattle.std.proofs.Common.{arith}
use Rattle.unifier.proofs.Laws.{examined_well, solved_valid, solved_classed}
use Rattle.unifier.proofs.AskLaws.{class_unknown}
use Rattle.unifier.proofs.ClassLaws.{told}
use Rattle.unifier.proofs.Workspace.class_in.Goals as goal

pub returns-then-self-x : goal.returns-then-self-x
returns-then-self-x c =
    let s = examined_well _ _ _ _ c.in_ok-table.was c.examined.ensures in
    class_unknown c.args.self.now c.args.u (solved_valid _ _ _ s) (omega (arith, c.if-self-x.true, c.from-x.ensures))

pub returns : goal.returns
returns c =
    let s = examined_well _ _ _ _ c.in_ok-table.was c.examined.ensures in
    told c.args.self.now _ c.args.u (solved_classed _ _ _ s) (omega (arith, c.if-self-x.false, c.from-x.ensures)) c.class_figures.result (rw c.from-x.ensures at c.class_figures.ensures)
