-- `Workspace::put_variable` meets its contract.
use Rattle.std.proofs.Common.{arith}
use Rattle.graph.specs.State.{variable}
use Rattle.unifier.proofs.Laws.{examined_well, solved_valid, refused_full, declared, variable_early}
use Rattle.unifier.proofs.Workspace.put_variable.Goals as goal

pub returns-then-n-ge-NODES : goal.returns-then-n-ge-NODES
returns-then-n-ge-NODES c =
    let s = examined_well _ _ _ _ c.in_ok-examined.was c.examined.ensures in
    refused_full c.args.self.now variable (solved_valid _ _ _ s) (omega (arith, c.if-n-ge-NODES.true))

pub returns : goal.returns
returns c =
    let w = c.args.self.now in
    let v = solved_valid w _ _ (examined_well _ _ _ _ c.in_ok-examined.was c.examined.ensures) in
    let p = c.put_variable.ensures in
    declared w variable v _ (p.nodes v.shape.terms) p.count (p.shape v.shape.terms) (variable_early w (omega (arith, c.if-n-ge-NODES.false)))
