-- `Workspace::remove` meets its contract.
use Rattle.std.proofs.Common.{sym, ◌∙◌}
use Rattle.unifier.proofs.Laws.{examined_well, solved_valid, gone, not_held}
use Rattle.unifier.proofs.Workspace.remove.Goals as goal

pub returns-then-remove : goal.returns-then-remove
returns-then-remove c =
    let w = c.args.self.now in
    let v = solved_valid w _ _ (examined_well _ _ _ _ c.in_ok-examined.was c.examined.ensures) in
    let p = c.remove.ensures in
    gone w c.args.name v _ (sym p.found ∙ c.if-remove.true) p.held (p.shape _ v.shape.equations)

pub returns-else-remove : goal.returns-else-remove
returns-else-remove c =
    let w = c.args.self.now in
    let v = solved_valid w _ _ (examined_well _ _ _ _ c.in_ok-examined.was c.examined.ensures) in
    let p = c.remove.ensures in
    let n = sym p.found ∙ c.if-remove.false in
    rw (p.kept n) (not_held w c.args.name v n)
