-- What a trace says of its table: what it joins stands in the closure, and it has at most 63 entries.
use mathlib.Core.Path.{◌≡◌, sym, ◌∙◌}
use mathlib.Core.Logic.{⊎_elim}
use mathlib.Core.List.{List, [], ◌∷◌}
use Prim.Native.Nat.{ℕ, ◌+◌, ◌≤◌}
use native.Mathlib.Omega.{arith}
use lib.ListN.{length, length-append}
use Rattle.graph.specs.State.{State, IsNode, Proper}
use Rattle.graph.specs.Closure.{Same, reflexivity, symmetry, transitivity}
use Rattle.graph.specs.Closure as cl
use Rattle.base.proofs.ListLaws.{found_lt}
use Rattle.graph.proofs.ClosureLaws.{child_known}
use Rattle.solve_classes.specs.Table.{Table, class_count}
use Rattle.solve_classes.specs.Exact.{Sound}
use Rattle.solve_classes.proofs.CountLaws.{classes_most, classes_some, classes_fall}
use Rattle.solve_trace.specs.declared.Entry.{Entry}
use Rattle.solve_trace.specs.Trace.{Reason, equation, down, Traced, start, merge}

module _ (s : State) (P : Proper s) where
  -- a reason joins known nodes
  pub reason_known : {t : List ℕ} {e : Entry} {x y : ℕ} → Reason s t e x y → IsNode s x × IsNode s y
  reason_known (equation {e} k h) = (P.left_known e (k, h), P.right_known e (k, h))
  reason_known (down p q j {f} {g} {x} {y} {cs} {ds} k n m l c d) = (child_known s P p f j x cs n c, child_known s P q g j y ds m d)

  -- a reason stands in the closure where the table's classes do
  pub reason_same : {t : List ℕ} {e : Entry} {x y : ℕ} → Sound s t → Reason s t e x y → Same s x y
  reason_same before (equation k h) = cl.equation (k, h)
  reason_same before (down p q j {f} {g} {x} {y} {cs} {ds} k n m l c d) =
      cl.down j (before p q (found_lt s.nodes p _ n) (found_lt s.nodes q _ m) k) n m l c d

  pub traced_table : {es : List Entry} {t : List ℕ} → Traced s es t → Table t
  traced_table (start F) = F.table
  traced_table (merge es e T w d m) = m.table

  module _ (fits : length s.nodes ≤ 64) where
    -- what the table joins stands in the closure
    pub traced_sound : {es : List Entry} {t : List ℕ} → Traced s es t → Sound s t
    traced_sound (start F) u v hu hv q =
        let e : u ≡ v = sym (F.alone u (omega arith)) ∙ q ∙ F.alone v (omega arith) in
        rw e (reflexivity hv)
    traced_sound (merge es e {t} {r} {x} {y} T w d m) u v hu hv q =
        let k = reason_known w in
        let before : Sound s t = λ u v hu hv q. traced_sound T u v hu hv q in
        let link : Same s x y = reason_same before w in
        ⊎_elim
        (λ p. before u v hu hv p)
        (⊎_elim
        (λ p. transitivity (before u x hu k.0 p.0) (transitivity link (before y v k.1 hv (sym p.1))))
        (λ p. transitivity (before u y hu k.1 p.0) (transitivity (symmetry link) (before x v k.0 hv (sym p.1)))))
        (m.to u v (omega arith) (omega arith) q)

    -- each entry lowers the number of classes
    pub traced_room : {es : List Entry} {t : List ℕ} → Traced s es t → length es + class_count t ≤ 64
    traced_room (start {t} F) = omega (arith, classes_most t)
    traced_room (merge es e {t} {r} {x} {y} T w d m) =
        let k = reason_known w in
        omega (
          arith,
          traced_room T,
          classes_fall t r x y (traced_table T) (omega (arith, k.0)) (omega (arith, k.1)) m d,
          length-append es (e ∷ []),
        )

    -- so there are at most 63
    pub traced_most : {es : List Entry} {t : List ℕ} → Traced s es t → length es ≤ 63
    traced_most {es} {t} T = omega (arith, traced_room T, classes_some t (traced_table T))
