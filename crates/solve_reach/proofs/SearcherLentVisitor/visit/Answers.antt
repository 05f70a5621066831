-- `solve_reach::SearcherLentVisitor::visit` meets its contract: the first j children are looked at.
use mathlib.Core.Path.{sym, ◌∙◌, ap}
use native.Mathlib.Omega.{arith}
use Rattle.std.proofs.Common.{length}
use Rattle.store.specs.Views.{lent_terms}
use Rattle.store.proofs.ViewLaws.{children_length}
use Rattle.solve_classes.specs.Table.{class}
use Rattle.solve_heights.proofs.SummandLaws.{nth_child}
use Rattle.solve_reach.proofs.ReachLaws.{reaching_small, expand_before, expand_now}
use Rattle.solve_reach.proofs.SearcherLentVisitor.visit.Goals as goal

pub bounds-table-from : goal.bounds-table-from
bounds-table-from c =
    let w = nth_child (lent_terms c.args.t.now) c.args.p c.loop-j.j c.children-x-items.ensures c.loop-j-test.true in
    omega (arith, c.from.ensures, w.1, c.requires.between.formed.earlier c.args.p c.loop-j.j c.requires.known w.0, c.requires.between.formed.most)

pub loop-j-preserved-then-is_some : goal.loop-j-preserved-then-is_some
loop-j-preserved-then-is_some c =
    let w = nth_child (lent_terms c.args.t.now) c.args.p c.loop-j.j c.children-x-items.ensures c.loop-j-test.true in
    expand_before _ _ _ _ _ _ _ w.0 w.1 (c.from-d.ensures ∙ ap (class c.args.table.now) c.from.ensures) c.loop-j.invariant
    (sym c.is_some.ensures ∙ c.if-is_some.true)

pub overflow_add-self : goal.overflow_add-self
overflow_add-self c = record { fits = omega (arith, reaching_small _ _ _ c.loop-j.invariant.reaching) }

pub overflow_cast-self-in-loop-j : goal.overflow_cast-self-in-loop-j
overflow_cast-self-in-loop-j c =
    let w = nth_child (lent_terms c.args.t.now) c.args.p c.loop-j.j c.children-x-items.ensures c.loop-j-test.true in
    record { fits = omega (arith, w.0, c.requires.between.formed.arities c.args.p c.requires.known) }

pub overflow_add-self-in-loop-j : goal.overflow_add-self-in-loop-j
overflow_add-self-in-loop-j c =
    let w = nth_child (lent_terms c.args.t.now) c.args.p c.loop-j.j c.children-x-items.ensures c.loop-j-test.true in
    record { fits = omega (arith, w.0, c.requires.between.formed.arities c.args.p c.requires.known) }

pub loop-j-preserved : goal.loop-j-preserved
loop-j-preserved c =
    let w = nth_child (lent_terms c.args.t.now) c.args.p c.loop-j.j c.children-x-items.ensures c.loop-j-test.true in
    let S = c.is_source.ensures.holds c.if-not-is_source.false in
    expand_now _ _ _ _ _ _ _ w.0 w.1 (c.from-d.ensures ∙ ap (class c.args.table.now) c.from.ensures) c.loop-j.invariant S.0 S.1
    (sym c.is_some.ensures ∙ c.if-is_some.false)

pub returns-clause-here : goal.returns-clause-here
returns-clause-here c = λ e U S j l.
    c.loop-j.invariant.children j
    (omega (arith, l, c.loop-j-test.false, ap length c.children-x-items.ensures, children_length (lent_terms c.args.t.now) c.args.p))
