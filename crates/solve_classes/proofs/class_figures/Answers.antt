-- `solve_classes::class_figures` meets its contract: trailing zeros and ones of the two sets, which fit a byte.
use mathlib.Core.Logic.{inl, inr}
use native.Mathlib.Omega.{arith}
use Rattle.solve_classes.specs.Members.{in_class, functor_kind}
use Rattle.solve_classes.proofs.MemberLaws.{ones_size, size_most, zeros_number, number_small}
use Rattle.solve_classes.proofs.class_figures.Goals as goal
use Rattle.solve_classes.proofs.class_figures.Goals.{then-functors-eq0, else-functors-eq0}

pub returns : goal.returns
returns c =
    let a = c.args in
    let f = in_class a.table a.c in
    let g = functor_kind a.kind in (
      zeros_number f g c.members-all.ensures c.members.ensures (elim c.if-functors-eq0.branch [ then-functors-eq0 w ↦ inl (w.if-functors-eq0.true, w.shown-is) | else-functors-eq0 w ↦ inr (w.if-functors-eq0.false, w.shown-is) ]),
      ones_size f c.members-all.ensures,
    )

pub overflow_cast-result : goal.overflow_cast-result
overflow_cast-result c =
    let a = c.args in
    omega (arith, (returns c).0, number_small (in_class a.table a.c) (functor_kind a.kind))

pub overflow_cast-result-2 : goal.overflow_cast-result-2
overflow_cast-result-2 c =
    let a = c.args in
    omega (arith, (returns c).1, size_most (in_class a.table a.c) 64)
