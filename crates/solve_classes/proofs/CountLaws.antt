-- The number of classes as a measure: from 1 to 64, a merge of two classes lowers it, and so at most 63 merges are effective.
use mathlib.Core.Path.{◌≡◌, refl, sym, ◌∙◌}
use mathlib.Core.List.{List}
use mathlib.Core.Bool.{Bool, true, false, cond}
use mathlib.Core.Logic.{◌⊎◌, inl, inr, ⊎_elim}
use Prim.Native.Nat.{ℕ, ◌+◌, ◌≤◌, ◌<◌}
use native.Mathlib.Nat.{eq-or-lt_of_le}
use native.Mathlib.Omega.{arith}
use lib.Dec.{eqb}
use borrow.Author.Tests.{eqb-true, eqb-false}
use Rattle.solve_classes.specs.Table.{class, Table, Fresh, Merged, root, class_count}
use Rattle.base.specs.Sum.{sum_to}
use Rattle.solve_classes.specs.Merges.{Merges, start, merge}
use Rattle.solve_classes.proofs.TableLaws.{class_small}
use Rattle.base.proofs.SumLaws.{sum_le, sum_same, sum_at, sum_most}

root_cases : (t : List ℕ) (i : ℕ) → ((class t i ≡ i) × (root t i ≡ 1)) ⊎ ((class t i ≡ i → ⊥) × (root t i ≡ 0))
root_cases t i = go (eqb (class t i) i) refl
  where
    go : (b : Bool) → eqb (class t i) i ≡ b → ((class t i ≡ i) × (◌≡◌ {A = ℕ} (cond b 1 0) 1)) ⊎ ((class t i ≡ i → ⊥) × (◌≡◌ {A = ℕ} (cond b 1 0) 0))
    go true e = inl (eqb-true _ _ e, refl)
    go false e = inr (eqb-false _ _ e, refl)

pub classes_most : (t : List ℕ) → class_count t ≤ 64
classes_most t = sum_most (root t) 64 (λ i h. ⊎_elim (λ p. omega arith) (λ p. omega arith) (root_cases t i))

pub classes_some : (t : List ℕ) → Table t → 0 < class_count t
classes_some t T =
    let z : class t 0 ≤ 0 = T.low 0 (omega arith) in
    ⊎_elim
    (λ p. omega (arith, sum_at (root t) 64 0 (omega arith)))
    (λ p. absurd (p.0 (omega arith)))
    (root_cases t 0)

module _ (s r : List ℕ) (S : Table s) (R : Table r)
    (grows : (x y : ℕ) → x < 64 → y < 64 → class s x ≡ class s y → class r x ≡ class r y) where
  lower : (i : ℕ) → i < 64 → class r i ≤ class s i
  lower i h =
      let b = class_small S i h in
      omega (arith, grows (class s i) i b h (S.fixed i h), R.low (class s i) b)

  roots_fewer : (i : ℕ) → i < 64 → root r i ≤ root s i
  roots_fewer i h =
      ⊎_elim
      (λ p. ⊎_elim (λ q. omega arith) (λ q. absurd (q.0 (omega (arith, p.0, lower i h, S.low i h)))) (root_cases s i))
      (λ p. omega arith)
      (root_cases r i)

  -- no fewer classes: the same table
  pub same_count : class_count s ≤ class_count r → (i : ℕ) → i < 64 → class s i ≡ class r i
  same_count l i h =
      let m = class_small S i h in
      let e : root s (class s i) ≡ root r (class s i) = sum_same (root s) (root r) 64 roots_fewer l (class s i) m in
      let k : class r (class s i) ≡ class s i
      = ⊎_elim
      (λ p. p.0)
      (λ p. ⊎_elim (λ q. absurd (omega (arith, e))) (λ q. absurd (q.0 (S.fixed i h))) (root_cases s (class s i)))
      (root_cases r (class s i)) in
      sym k ∙ grows (class s i) i m h (S.fixed i h)

  pub no_more : class_count r ≤ class_count s
  no_more = sum_le (root s) (root r) 64 roots_fewer

-- a merge of two classes lowers their number
pub classes_fall : (s r : List ℕ) (a b : ℕ) → Table s → a < 64 → b < 64 → Merged s a b r → (class s a ≡ class s b → ⊥) → class_count r < class_count s
classes_fall s r a b S ha hb m n =
    let grows : (x y : ℕ) → x < 64 → y < 64 → class s x ≡ class s y → class r x ≡ class r y = λ x y hx hy e. m.from x y hx hy (inl e) in
    ⊎_elim
    (λ l.
    let same = same_count s r S m.table grows (omega arith) in
    absurd (n (same a ha ∙ m.from a b ha hb (inr (inl (refl, refl))) ∙ sym (same b hb))))
    (λ l. l)
    (eq-or-lt_of_le (no_more s r S m.table grows))

ones : sum_to (λ i. 1) 64 ≡ 64
unfolding sum_to
ones = refl

pub fresh_count : (t : List ℕ) → Fresh t → class_count t ≡ 64
fresh_count t F =
    omega (
      arith,
      classes_most t,
      ones,
      sum_le (root t) (λ i. 1) 64 (λ i h. ⊎_elim (λ p. omega arith) (λ p. absurd (p.0 (F.alone i h))) (root_cases t i)),
    )

-- each effective merge of a run costs a class
pub merges_count : {t r : List ℕ} {k : ℕ} → Table t → Merges t k r → Table r × (class_count r + k ≤ class_count t)
merges_count T start = (T, omega arith)
merges_count T (merge {k} {a} {b} {r} {q} w ha hb n m) =
    let p = merges_count T w in
    (m.table, omega (arith, p.1, classes_fall r q a b p.0 ha hb m n))

-- at most 63 effective merges from a fresh table
pub merges_most : {t r : List ℕ} {k : ℕ} → Fresh t → Merges t k r → k ≤ 63
merges_most {t} {r} F w = let p = merges_count F.table w in omega (arith, p.1, fresh_count t F, classes_some r p.0)
