-- Steps of the solver put together: no step, one more step, one join.
use Rattle.std.proofs.Common.{◌≡◌, refl, ◌∙◌, inl, inr, List, [], ◌∷◌, ℕ, ◌+◌, ◌≤◌, ◌<◌, length, get_or, arith, length-append}
use borrow.Author.Count.{below_more}
use Rattle.graph.specs.State.{State}
use Rattle.solve_classes.specs.Table.{class}
use Rattle.solve_classes.proofs.CountLaws.{classes_some, classes_fall}
use Rattle.solve_trace.specs.declared.Entry.{Entry}
use Rattle.solve_trace.specs.Trace.{Reason, merge}
use Rattle.solve_trace.specs.Steps.{TraceFits, Joins, idle, grown, Extends, PairsJoined}

pub ready_room : {t : List ℕ} {es : List Entry} → TraceFits t es → length es < 64
ready_room {t} {es} R = omega (arith, R.room, classes_some t R.table)

-- what a join joins
pub joins_ends : {t : List ℕ} {es : List Entry} {x y : ℕ} {e : Entry} {r : List ℕ} {fs : List Entry} → x < 64 → y < 64 → Joins t es x y e r fs → class r x ≡ class r y
joins_ends hx hy (idle q) = q
joins_ends hx hy (grown d w) = w.from _ _ hx hy (inr (inl (refl, refl)))

module _ (S : State → Type 0) where
  pub extends_none : (t : List ℕ) (es : List Entry) → TraceFits t es → Extends S t es t es
  extends_none t es R =
      record { ready = R; more = omega arith; same = λ q. refl; grows = λ x y hx hy q. q; traced = λ s h T. T }

  pub extends_more : {t r p : List ℕ} {es fs gs : List Entry} → Extends S t es r fs → Extends S r fs p gs → Extends S t es p gs
  extends_more A B =
      record {
        ready = B.ready;
        more = omega (arith, A.more, B.more);
        same = λ q. B.same (omega (arith, A.more, B.more)) ∙ A.same (omega (arith, A.more, B.more));
        grows = λ x y hx hy q. B.grows x y hx hy (A.grows x y hx hy q);
        traced = λ s h T. B.traced s h (A.traced s h T);
      }

  pub extends_join : (x y : ℕ) (e : Entry) {t r : List ℕ} {es fs : List Entry} → x < 64 → y < 64 → TraceFits t es
      → ((s : State) → S s → Reason s t e x y) → Joins t es x y e r fs → Extends S t es r fs
  extends_join x y e {t} {es = es} hx hy R why (idle q) = extends_none t es R
  extends_join x y e {t} {r} {es} hx hy R why (grown d w) =
      let one = length-append es (e ∷ []) in
      record {
        ready = record { table = w.table; room = omega (arith, one, R.room, classes_fall t r x y R.table hx hy w d) };
        more = omega (arith, one);
        same = λ q. absurd (omega (arith, one, q));
        grows = λ u v hu hv q. w.from u v hu hv (inl q);
        traced = λ s h T. merge es e T (why s h) d w;
      }

pub joins_ready : {t r : List ℕ} {es fs : List Entry} {x y : ℕ} {e : Entry} → x < 64 → y < 64 → TraceFits t es → Joins t es x y e r fs → TraceFits r fs
joins_ready {x} {y} {e} hx hy R J = (extends_join (λ s. ⊥) x y e hx hy R (λ s h. absurd h) J).ready

-- fewer states
pub extends_only : (S Q : State → Type 0) {t r : List ℕ} {es fs : List Entry} → ((s : State) → Q s → S s) → Extends S t es r fs → Extends Q t es r fs
extends_only S Q into A =
    record { ready = A.ready; more = A.more; same = A.same; grows = A.grows; traced = λ s h T. A.traced s (into s h) T }

module _ (S : State → Type 0) (left right : ℕ → ℕ) where
  pub pairs_none : (t : List ℕ) (es : List Entry) → TraceFits t es → PairsJoined S left right 0 t es t es
  pairs_none t es R = record { extends = extends_none S t es R; joined = λ j h. absurd (omega arith) }

  -- one more pair of ends, as the code reads them, is joined
  pub pairs_more : (k : ℕ) {x y : ℕ} {e : Entry} {t r p : List ℕ} {es fs gs : List Entry}
      → x ≡ left k → y ≡ right k
      → ((j : ℕ) → j < k + 1 → (left j < 64) × (right j < 64))
      → ((s : State) → S s → Reason s r e (left k) (right k))
      → PairsJoined S left right k t es r fs → Joins r fs x y e p gs → PairsJoined S left right (k + 1) t es p gs
  pairs_more k {e = e} ex ey h why P J =
      let b = h k (omega arith) in
      let J' = rw (ex, ey) at J in
      let X = extends_join S (left k) (right k) e b.0 b.1 P.extends.ready why J' in
      record {
        extends = extends_more S P.extends X;
        joined =
            below_more _ k
            (λ j l. let c = h j (omega arith) in X.grows _ _ c.0 c.1 (P.joined j l))
            (joins_ends b.0 b.1 J');
      }

  -- the next pair of ends is joined already
  pub pairs_skip : (k : ℕ) {x y : ℕ} {t r : List ℕ} {es fs : List Entry} → PairsJoined S left right k t es r fs
      → x ≡ left k → y ≡ right k → class r x ≡ class r y → PairsJoined S left right (k + 1) t es r fs
  pairs_skip k P ex ey e = record { extends = P.extends; joined = below_more _ k P.joined (rw (← ex, ← ey) e) }

  pub pairs_all : (k l : ℕ) {t r : List ℕ} {es fs : List Entry} → l ≤ k → PairsJoined S left right k t es r fs → PairsJoined S left right l t es r fs
  pairs_all k l h P = record { extends = P.extends; joined = λ j q. P.joined j (omega arith) }

-- joined as two lists have them, in fewer states
pub pairs_only : (S Q : State → Type 0) (left right : ℕ → ℕ) (xs ys : List ℕ) (k : ℕ) {t r : List ℕ} {es fs : List Entry} → length xs ≡ k
    → ((s : State) → Q s → S s) → ((j : ℕ) → j < k → (get_or xs j 0 ≡ left j) × (get_or ys j 0 ≡ right j))
    → PairsJoined S (λ (j : ℕ). get_or xs j 0) (λ (j : ℕ). get_or ys j 0) (length xs) t es r fs → PairsJoined Q left right k t es r fs
pairs_only S Q left right xs ys k q into at P =
    record {
      extends = extends_only S Q into P.extends;
      joined = λ j h. let a = at j h in let b = P.joined j (omega (arith, q, h)) in rw (a.0, a.1) at b;
    }
