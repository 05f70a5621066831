-- What an entry of a trace says, as the arrays have it; and one trace makes one table.
use mathlib.Core.Path.{◌≡◌, refl}
use mathlib.Core.List.{List}
use Prim.Native.Nat.{ℕ, ◌≤◌, ◌<◌}
use native.Mathlib.Omega.{arith}
use denote.Struct.Props.{props}
use Rattle.std.specs.List.{All}
use Rattle.std.proofs.lemmas.List.Elements.{All-push}
use Rattle.graph.specs.State.{State}
use Rattle.base.proofs.ListLaws.{found_lt}
use Rattle.store.specs.declared.Terms.{Terms}
use Rattle.store.specs.declared.Equations.{Equations}
use Rattle.solve_classes.specs.Table.{class}
use Rattle.solve_trace.specs.declared.Entry.{Entry}
use Rattle.solve_trace.specs.declared.Entry.TheVariants as entry
use Rattle.solve_trace.specs.Trace.{Reason, equation, down, Traced, start, merge}
use Rattle.solve_trace.proofs.TraceLaws.{reason_known, traced_table}
use Rattle.solve_trace.proofs.ReplayLaws.{traced_unique}
use Rattle.write_needed.specs.Entries.{left_end, right_end, Placed, InRange, AllInRange, Limited, EndsAndChildren, ReasonHolds, AllReasonsHold}

module _ {g : Terms} {q : Equations} (s : State) (D : EndsAndChildren g q s) where
  -- the nodes that an entry joins
  pub entry_ends : {t : List ℕ} {e : Entry} {x y : ℕ} → Reason s t e x y → (left_end g q e ≡ x) × (right_end g q e ≡ y)
  entry_ends (equation {e = d} k h) = (D.lefts k d h, D.rights k d h)
  entry_ends (down u v j {f} {g} {x} {y} {cs} {ds} c n m w a b) = ((D.children u f j x cs n a).1, (D.children v g j y ds m b).1)

  entry_placed : {t : List ℕ} {e : Entry} {x y : ℕ} → Reason s t e x y → Placed e
  entry_placed (equation {e = d} k h) = omega (arith, found_lt s.equations k d h, D.limited.few)
  entry_placed (down u v j {f} {g} {x} {y} {cs} {ds} c n m w a b) = (
    omega (arith, D.limited.fits, found_lt s.nodes u _ n),
    (omega (arith, D.limited.fits, found_lt s.nodes v _ m), (D.children u f j x cs n a).0),
  )

  entry_in_range : {t : List ℕ} {e : Entry} {x y : ℕ} → Reason s t e x y → InRange g q e
  entry_in_range w =
      let k = reason_known s D.limited.proper w in
      let z = entry_ends w in
      record {
        placed = entry_placed w;
        lefts = rw z.0 (omega (arith, k.0, D.limited.fits));
        rights = rw z.1 (omega (arith, k.1, D.limited.fits));
      }

  -- a reason is one on every table that has its two nodes in one class
  entry_stands : {t : List ℕ} {e : Entry} {x y : ℕ} → Reason s t e x y → ReasonHolds s e
  entry_stands (equation {e = d} k h) = record { left = d.left; right = d.right; reason = λ t f. equation k h }
  entry_stands (down u v j {f} {g} {x} {y} {cs} {ds} c n m w a b) =
      record { left = x; right = y; reason = λ t f. down u v j f n m w a b }

  -- what holds of every reason holds of the entries of a trace
  each : {es : List Entry} {t : List ℕ} (P : Entry → Type 0) → ((t : List ℕ) (e : Entry) (x y : ℕ) → Reason s t e x y → P e) → Traced s es t → All P es
  each P f (start F) = λ k d h. absurd (omega arith)
  each P f (merge es e {t} {x = x} {y} T w d m) = All-push P es e (each P f T) (f t e x y w)

  pub trace_in_range : {es : List Entry} {t : List ℕ} → Traced s es t → AllInRange g q es
  trace_in_range = each (InRange g q) (λ t e x y w. entry_in_range w)

  pub trace_stands : {es : List Entry} {t : List ℕ} → Traced s es t → AllReasonsHold s es
  trace_stands = each (ReasonHolds s) (λ t e x y w. entry_stands w)

-- ---- one trace makes one table

module _ (s : State) (L : Limited s) where
  at_most : {es : List Entry} {t r : List ℕ} → Traced s es t → Traced s es r → (x : ℕ) → x < 64 → class r x ≤ class t x
  at_most {es} {t} {r} T R x h =
      let A = traced_table s L.proper T in
      let B = traced_table s L.proper R in
      let l = A.low x h in
      let e = traced_unique s L.proper L.fits T R refl (class t x) x (omega arith) h (A.fixed x h) in
      omega (arith, e, B.low (class t x) (omega arith))

  pub one_table : {es : List Entry} {t r : List ℕ} → Traced s es t → Traced s es r → (x : ℕ) → x < 64 → class t x ≡ class r x
  one_table T R x h = omega (arith, at_most T R x h, at_most R T x h)

-- ---- that entries are in range is proved in one way only, as a ghost field asks

placed_prop : (e : Entry) → IsProp (Placed e)
placed_prop (entry.Equation k) = hlevel props
placed_prop (entry.Children u v j) = hlevel props

in_range_prop : (g : Terms) (q : Equations) (e : Entry) → IsProp (InRange g q e)
in_range_prop g q e x y =
    let lefts_prop : IsProp (left_end g q e < 64) = hlevel props in
    let rights_prop : IsProp (right_end g q e < 64) = hlevel props in
    λ i. record {
      placed = placed_prop e x.placed y.placed i;
      lefts = lefts_prop x.lefts y.lefts i;
      rights = rights_prop x.rights y.rights i;
    }

pub all_in_range_prop : (g : Terms) (q : Equations) (es : List Entry) → IsProp (AllInRange g q es)
all_in_range_prop g q es = hlevel (props, in_range_prop)
