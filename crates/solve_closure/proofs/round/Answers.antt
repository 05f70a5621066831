-- `solve_closure::round` meets its contract: the nodes from u up are visited.
use Rattle.std.proofs.Common.{rules, refl, arith, ◌-◌, ◌≡◌, None}
use Rattle.std.proofs.lemmas.List.{get_or-replicate}
use Rattle.store.specs.Views.{lent_terms}
use Rattle.solve_trace.specs.Nodes.{Alike}
use Rattle.solve_closure.proofs.VisitLaws.{own, meeting, visit_idle, visit_pair, visit_clash, passed_visiting, meeting_low, pair_places, pair_bounds, pair_agree, passed_none, passed_more, passed_clash, passed_all}
use Rattle.solve_closure.proofs.round.Goals as goal

pub loop-u-init : goal.loop-u-init
loop-u-init c = rw c.none-head.ensures (passed_none _ _ _ _ c.requires.trace_fits (search rules) (λ i h. get_or-replicate 64 i None None h))

pub meet-requires : goal.meet-requires
meet-requires c =
    let A = passed_visiting (c.loop-u.u - 1) c.loop-u.u (omega arith) c.requires.formed c.loop-u.invariant in
    (omega (arith, c.from.ensures, own _ _ _ _ _ A), omega (arith, c.requires.formed.most))

pub loop-u-preserved-in_default : goal.loop-u-preserved-in_default
loop-u-preserved-in_default c =
    let A = passed_visiting (c.loop-u.u - 1) c.loop-u.u (omega arith) c.requires.formed c.loop-u.invariant in
    passed_more _ _ _ (c.loop-u.u - 1) _ (omega arith) c.loop-u.invariant
    (visit_idle _ _ _ _ _ A c.from.ensures (c.meet.ensures (lent_terms c.args.t.now) refl) c.in_default.not-Some) c.requires.formed

pub bounds-t-w : goal.bounds-t-w
bounds-t-w c =
    let A = passed_visiting (c.loop-u.u - 1) c.loop-u.u (omega arith) c.requires.formed c.loop-u.invariant in
    let M = meeting _ _ _ _ _ A c.from.ensures (c.in-Some.ensures (lent_terms c.args.t.now) refl) in
    let low = meeting_low M in
    omega (arith, c.from-w.ensures, low.1)

pub returns-then-t-u : goal.returns-then-t-u
returns-then-t-u c =
    let A = passed_visiting (c.loop-u.u - 1) c.loop-u.u (omega arith) c.requires.formed c.loop-u.invariant in
    passed_clash _ _ _ (c.loop-u.u - 1) _ (omega arith) c.loop-u.invariant _ _
    (visit_clash _ _ _ _ _ A c.from.ensures (c.in-Some.ensures (lent_terms c.args.t.now) refl) (λ a. c.if-t-u.true (cc)))

pub join_children-next-requires-clause-u_bound : goal.join_children-next-requires-clause-u_bound
join_children-next-requires-clause-u_bound c =
    let A = passed_visiting (c.loop-u.u - 1) c.loop-u.u (omega arith) c.requires.formed c.loop-u.invariant in
    let M = meeting _ _ _ _ _ A c.from.ensures (c.in-Some.ensures (lent_terms c.args.t.now) refl) in
    let alike : Alike (lent_terms c.args.t.now) (c.loop-u.u - 1) c.in-Some.v = cc in
    let l = meeting_low M in
    rw c.from-w.ensures (l.0, l.1, (pair_places _ _ _ _ _ M alike).0, l.2)

pub join_children-next-requires-clause-by_index : goal.join_children-next-requires-clause-by_index
join_children-next-requires-clause-by_index c =
    let A = passed_visiting (c.loop-u.u - 1) c.loop-u.u (omega arith) c.requires.formed c.loop-u.invariant in
    let M = meeting _ _ _ _ _ A c.from.ensures (c.in-Some.ensures (lent_terms c.args.t.now) refl) in
    let alike : Alike (lent_terms c.args.t.now) (c.loop-u.u - 1) c.in-Some.v = cc in
    rw c.from-w.ensures (pair_bounds _ _ _ _ _ M alike)

pub loop-u-preserved : goal.loop-u-preserved
loop-u-preserved c =
    let A = passed_visiting (c.loop-u.u - 1) c.loop-u.u (omega arith) c.requires.formed c.loop-u.invariant in
    let M = meeting _ _ _ _ _ A c.from.ensures (c.in-Some.ensures (lent_terms c.args.t.now) refl) in
    let alike : Alike (lent_terms c.args.t.now) (c.loop-u.u - 1) c.in-Some.v = cc in
    passed_more _ _ _ (c.loop-u.u - 1) _ (omega arith) c.loop-u.invariant
    (visit_pair _ _ _ _ _ A c.from.ensures (c.in-Some.ensures (lent_terms c.args.t.now) refl) (pair_agree _ _ _ _ _ M alike (rw c.from-w.ensures at c.join_children-next.ensures))) c.requires.formed

pub returns : goal.returns
returns c =
    let z : c.loop-u.u ≡ 0 = omega arith in
    passed_all _ _ _ c.requires.formed (rw z at c.loop-u.invariant)
