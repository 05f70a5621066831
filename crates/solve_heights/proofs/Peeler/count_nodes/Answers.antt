-- `solve_heights::Peeler::count_nodes` meets its contract: the nodes below u are counted.
use mathlib.Core.Path.{◌≡◌, refl}
use native.Mathlib.Omega.{arith}
use Rattle.std.proofs.Common.{◌<◌}
use Rattle.solve_classes.specs.Table.{root}
use Rattle.solve_heights.proofs.SummandLaws.{root_most}
use Rattle.solve_heights.proofs.StartLaws.{root_told, counted_none, counted_low, counted_classes, counted_more, peel_start}
use Rattle.solve_heights.proofs.Peeler.count_nodes.Goals as goal

pub loop-u-init : goal.loop-u-init
loop-u-init c = rw c.requires.fresh (record { height = refl; pending = refl; went = refl; counted = counted_none _ })

pub overflow_add-self : goal.overflow_add-self
overflow_add-self c =
    let l : c.from-c.result < 64 = omega (arith, c.from-c.ensures, c.requires.table.low c.loop-u.u (omega (arith, c.requires.formed.most))) in
    record { fits = omega (arith, counted_low _ _ _ _ c.loop-u.invariant.counted c.from-c.result l, c.requires.formed.most) }

pub overflow_add-self-in-loop-u : goal.overflow_add-self-in-loop-u
overflow_add-self-in-loop-u c =
    let e : c.from.result ≡ root c.args.table.now c.loop-u.u = root_told _ _ _ _ c.from-c.ensures c.from.ensures in
    record { fits = omega (arith, e, root_most c.args.table.now c.loop-u.u, counted_classes _ _ _ _ c.loop-u.invariant.counted, c.requires.formed.most) }

pub loop-u-preserved : goal.loop-u-preserved
loop-u-preserved c =
    let I = c.loop-u.invariant in
    let l : c.from-c.result < 64 = omega (arith, c.from-c.ensures, c.requires.table.low c.loop-u.u (omega (arith, c.requires.formed.most))) in
    let e : c.from.result ≡ root c.args.table.now c.loop-u.u = root_told _ _ _ _ c.from-c.ensures c.from.ensures in
    record {
      height = I.height;
      pending = I.pending;
      went = I.went;
      counted = counted_more _ _ _ _ _ _ _ I.counted l c.from-c.ensures refl (omega (arith, e));
    }

pub returns : goal.returns
returns c =
    let I = c.loop-u.invariant in
    let e : c.loop-u.u ≡ c.args.t.now.count = omega arith in
    rw (I.height, I.pending, I.went) (peel_start _ _ _ _ c.requires.table c.requires.formed (rw e at I.counted))
