-- `Workspace::reply_to` meets its contract: by its refusals, then by what the solver finds.
use Rattle.std.proofs.Common.{rules, arith}
use Rattle.unifier.specs.Inner.{equation_in}
use Rattle.unifier.proofs.Laws.{examined_well, solved_valid}
use Rattle.unifier.proofs.EquateLaws.{offering_now, known_left, known_right, extend_fits, refuted, settles_early}
use Rattle.unifier.proofs.Workspace.reply_to.Goals as goal

pub returns-in_err-early : goal.returns-in_err-early
returns-in_err-early c =
    let a = c.args in
    let s = examined_well _ _ _ _ c.in_ok-table.was c.examined.ensures in
    settles_early a.self.now (equation_in a.offer) a.proof.now (solved_valid _ _ _ s) _ _ c.in_err-early.was c.early.ensures (search rules)

pub overflow_cast-x : goal.overflow_cast-x
overflow_cast-x c =
    let a = c.args in
    let o = offering_now a.self.now (equation_in a.offer) _ _ _ _ _ c.in_ok-table.was c.examined.ensures c.in_ok-early.was c.early.ensures in
    omega (arith, known_left a.self.now (equation_in a.offer) a.proof.now o.past, o.solved.shape.terms.few)

pub overflow_cast-y : goal.overflow_cast-y
overflow_cast-y c =
    let a = c.args in
    let o = offering_now a.self.now (equation_in a.offer) _ _ _ _ _ c.in_ok-table.was c.examined.ensures c.in_ok-early.was c.early.ensures in
    omega (arith, known_right a.self.now (equation_in a.offer) a.proof.now o.past, o.solved.shape.terms.few)

pub extend-o-requires : goal.extend-o-requires
extend-o-requires c =
    let a = c.args in
    extend_fits a.self.now (equation_in a.offer) a.proof.now _ _ (offering_now _ _ _ _ _ _ _ c.in_ok-table.was c.examined.ensures c.in_ok-early.was c.early.ensures)

pub answer-requires : goal.answer-requires
answer-requires c =
    let a = c.args in
    let o = offering_now a.self.now (equation_in a.offer) _ _ _ _ _ c.in_ok-table.was c.examined.ensures c.in_ok-early.was c.early.ensures in
    rw c.as_slice.ensures.value (refuted a.self.now (equation_in a.offer) a.proof.now _ _ o _ _ c.extend-o.ensures.left_over c.extend-o.ensures.decided)
