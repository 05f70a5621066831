-- `solve_heights::Peeler::stuck` meets its contract: the children so far lie in classes that went.
use mathlib.Core.Bool.{not}
use mathlib.Core.Path.{sym, ◌∙◌, ap}
use Rattle.byte_option.proofs.TableLaws.{got}
use Rattle.std.proofs.Common.{rules, ◌<◌, length, below_more, eqb-true}
use native.Mathlib.Omega.{arith}
use Rattle.base.proofs.TellLaws.{tells_yes, tells_not}
use Rattle.store.specs.Views.{lent_terms}
use Rattle.store.proofs.ViewLaws.{children_length}
use Rattle.solve_heights.proofs.OptionLaws.{some_of, none_of}
use Rattle.solve_heights.proofs.SummandLaws.{nth_child, through}
use Rattle.solve_heights.proofs.Peeler.stuck.Goals as goal

pub bounds-table-from : goal.bounds-table-from
bounds-table-from c =
    let w = nth_child (lent_terms c.args.t.now) c.args.u c.loop-x.x-index c.children-x-items.ensures c.loop-x-test.true in
    omega (arith, c.from.ensures, w.1, c.requires.peeling.formed.earlier c.args.u c.loop-x.x-index c.requires.known w.0, c.requires.peeling.formed.most)

pub returns-then-is_none : goal.returns-then-is_none
returns-then-is_none c =
    let w = nth_child (lent_terms c.args.t.now) c.args.u c.loop-x.x-index c.children-x-items.ensures c.loop-x-test.true in
    let b : c.from-in-loop-x.result < length c.args.self.now.height = search rules in
    tells_yes (record {
      functor = record { known = c.requires.known; kind = eqb-true _ _ (sym c.is_functor.ensures ∙ c.if-not-is_functor.false) };
      place = c.loop-x.x-index;
      within = w.0;
      stays = through c.args.table.now c.args.self.now.height (c.from.ensures ∙ w.1) c.from-in-loop-x.ensures
          ∙ (got c.args.self.now.height b c.index-self-from.is c.get.ensures ∙ none_of _ (c.is_none.ensures ∙ ap not c.if-is_none.true));
    })

pub loop-x-preserved : goal.loop-x-preserved
loop-x-preserved c =
    let w = nth_child (lent_terms c.args.t.now) c.args.u c.loop-x.x-index c.children-x-items.ensures c.loop-x-test.true in
    let b : c.from-in-loop-x.result < length c.args.self.now.height = search rules in
    below_more _ _ c.loop-x.invariant
    (λ q.
    let a = some_of _ (c.is_none.ensures ∙ ap not c.if-is_none.false) in
    cc (through c.args.table.now c.args.self.now.height (c.from.ensures ∙ w.1) c.from-in-loop-x.ensures, got c.args.self.now.height b c.index-self-from.is c.get.ensures, a.1))

pub returns : goal.returns
returns c =
    tells_not (λ S.
    c.loop-x.invariant S.place
    (omega (arith, S.within, c.loop-x-test.false, ap length c.children-x-items.ensures, children_length (lent_terms c.args.t.now) c.args.u))
    S.stays)
