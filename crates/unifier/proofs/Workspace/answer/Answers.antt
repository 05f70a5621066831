-- `Workspace::answer` meets its contract: by cases on the verdict.
use Rattle.std.proofs.Common.{arith, ap}
use Rattle.solve.specs.Decided.{number}
use Rattle.unifier_respond.proofs.ShowLaws.{goal_same, goal_clash}
use Rattle.unifier_respond.proofs.FoundLaws.{found_clash, clash_left, clash_right, one_class, found_cycle, cycle_closure, left_by_peel}
use Rattle.unifier.specs.Inner.{equation_in}
use Rattle.unifier.proofs.EquateLaws.{refuted_ends, refuted_room, refuted_shape, refuted_decided, settles_held, settles_clash, settles_cycle}
use Rattle.unifier.proofs.Workspace.answer.Goals as goal

pub put_offer-requires : goal.put_offer-requires
put_offer-requires c =
    let a = c.args in
    refuted_ends a.self.now (equation_in a.offer) a.proof.now a.o.now a.trace.now c.requires

pub put_offer-requires-in-Cycle : goal.put_offer-requires-in-Cycle
put_offer-requires-in-Cycle c =
    let a = c.args in
    refuted_ends a.self.now (equation_in a.offer) a.proof.now a.o.now a.trace.now c.requires

pub show_same-lines-requires : goal.show_same-lines-requires
show_same-lines-requires c =
    let a = c.args in
    let w = a.self.now in
    let e = equation_in a.offer in
    let f = c.requires in
    let D = refuted_decided w e a.proof.now a.o.now a.trace.now f _ c.put_offer.ensures in
    record {
      shape = refuted_shape w e a.proof.now a.o.now a.trace.now f _ c.put_offer.ensures;
      proof_room = refuted_room w e a.proof.now a.o.now a.trace.now f;
      u_lt_count = (clash_left _ _ D _ _ c.in-Clash.is, clash_right _ _ D _ _ c.in-Clash.is);
      one_class = one_class _ _ D _ _ c.in-Clash.is;
    }

pub overflow_cast-lines : goal.overflow_cast-lines
overflow_cast-lines c = omega (arith, (goal_same _ _ _ c.show_same-lines.ensures).few)

pub show_cycle-lines-requires : goal.show_cycle-lines-requires
show_cycle-lines-requires c =
    let a = c.args in
    let w = a.self.now in
    let e = equation_in a.offer in
    let f = c.requires in
    let D = refuted_decided w e a.proof.now a.o.now a.trace.now f _ c.put_offer-in-Cycle.ensures in
    record {
      shape = refuted_shape w e a.proof.now a.o.now a.trace.now f _ c.put_offer-in-Cycle.ensures;
      proof_room = refuted_room w e a.proof.now a.o.now a.trace.now f;
      traced_closure = cycle_closure _ _ D c.in-Cycle.is;
      peeled = left_by_peel _ f.left_over c.in-Cycle.is;
      cycle = (found_cycle _ _ D c.in-Cycle.is).cycle;
    }

pub returns-in-Solved : goal.returns-in-Solved
returns-in-Solved c =
    let a = c.args in
    settles_held a.self.now (equation_in a.offer) a.proof.now a.o.now a.trace.now c.requires c.in-Solved.is

pub returns-in-Clash : goal.returns-in-Clash
returns-in-Clash c =
    let a = c.args in
    let w = a.self.now in
    let e = equation_in a.offer in
    let f = c.requires in
    let D = refuted_decided w e a.proof.now a.o.now a.trace.now f _ c.put_offer.ensures in
    settles_clash w e a.proof.now a.o.now a.trace.now f _ c.put_offer.ensures _ _ (ap number c.in-Clash.is) (goal_clash _ _ _ (found_clash _ _ D _ _ c.in-Clash.is) c.show_same-lines.ensures)

pub returns-in-Cycle : goal.returns-in-Cycle
returns-in-Cycle c =
    let a = c.args in
    let w = a.self.now in
    let e = equation_in a.offer in
    let f = c.requires in
    settles_cycle w e a.proof.now a.o.now a.trace.now f _ c.put_offer-in-Cycle.ensures _ _ (ap number c.in-Cycle.is) c.show_cycle-lines.ensures
