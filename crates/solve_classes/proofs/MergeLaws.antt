-- What joining two classes of a table does to the table's relation.
use mathlib.Core.Path.{◌≡◌, refl, sym, ◌∙◌, ap}
use mathlib.Core.List.{List}
use mathlib.Core.Bool.{cond}
use mathlib.Core.Logic.{◌⊎◌, inl, inr, ⊎_elim}
use Prim.Native.Nat.{ℕ, ◌≤◌, ◌<◌}
use native.Mathlib.Omega.{arith}
use lib.Dec.{eqb}
use borrow.Author.Tests.{le-leb, lt-leb}
use Rattle.solve_classes.specs.Table.{class, Relabelled, Table, JoinedBy, Merged}
use Rattle.solve_classes.proofs.TableLaws.{class_small}

-- the two cases of an entry
pub cond_cases : (x gone keep : ℕ)
    → ((x ≡ gone) × (cond (eqb x gone) keep x ≡ keep)) ⊎ ((x ≡ gone → ⊥) × (cond (eqb x gone) keep x ≡ x))
cond_cases x gone keep = grind arith

module _ (t r : List ℕ) (a b : ℕ) (ha : a < 64) (hb : b < 64) (T : Table t) (le : class t a ≤ class t b) (J : Relabelled t (class t a) (class t b) r) where
  Cases : ℕ → Type 0
  Cases i = ((class t i ≡ class t b) × (class r i ≡ class t a)) ⊎ ((class t i ≡ class t b → ⊥) × (class r i ≡ class t i))

  cases : (i : ℕ) → i < 64 → Cases i
  unfolding Cases
  cases i h =
      ⊎_elim
      (λ p. inl (p.0, J.entry i h ∙ p.1))
      (λ p. inr (p.0, J.entry i h ∙ p.1))
      (cond_cases (class t i) (class t b) (class t a))

  -- nodes that t joins stay joined
  same : (x y : ℕ) → x < 64 → y < 64 → class t x ≡ class t y → class r x ≡ class r y
  same x y hx hy e = J.entry x hx ∙ ap (λ (n : ℕ). cond (eqb n (class t b)) (class t a) n) e ∙ sym (J.entry y hy)

  low : (i : ℕ) → i < 64 → class r i ≤ i
  unfolding Cases
  low i h = ⊎_elim (λ p. omega (arith, T.low i h)) (λ p. omega (arith, T.low i h)) (cases i h)

  -- the kept class's own entry stands
  kept : class r (class t a) ≡ class t a
  unfolding Cases
  kept = ⊎_elim (λ p. p.1) (λ p. p.1 ∙ T.fixed a ha) (cases (class t a) (class_small T a ha))

  fixed : (i : ℕ) → i < 64 → class r (class r i) ≡ class r i
  unfolding Cases
  fixed i h =
      ⊎_elim
      (λ p. ap (class r) p.1 ∙ kept ∙ sym p.1)
      (λ p. ap (class r) p.1
      ∙ ⊎_elim (λ q. absurd (p.0 (sym (T.fixed i h) ∙ q.0))) (λ q. q.1 ∙ T.fixed i h) (cases (class t i) (class_small T i h))
      ∙ sym p.1)
      (cases i h)

  to : (x y : ℕ) → x < 64 → y < 64 → class r x ≡ class r y → JoinedBy t a b x y
  unfolding Cases
  to x y hx hy e =
      ⊎_elim
      (λ p. ⊎_elim (λ q. inl (cc)) (λ q. inr (inr (cc, cc))) (cases y hy))
      (λ p. ⊎_elim (λ q. inr (inl (cc, cc))) (λ q. inl (cc)) (cases y hy))
      (cases x hx)

  from : (x y : ℕ) → x < 64 → y < 64 → JoinedBy t a b x y → class r x ≡ class r y
  unfolding Cases
  from x y hx hy j =
      ⊎_elim
      (same x y hx hy)
      (⊎_elim
      (λ p. same x a hx ha p.0 ∙ ends ∙ same b y hb hy (sym p.1))
      (λ p. same x b hx hb p.0 ∙ sym ends ∙ same a y ha hy (sym p.1)))
      j
    where
      ends : class r a ≡ class r b
      ends =
          ⊎_elim
          (λ p. ⊎_elim (λ q. cc) (λ q. absurd (q.0 refl)) (cases b hb))
          (λ p. ⊎_elim (λ q. cc) (λ q. absurd (q.0 refl)) (cases b hb))
          (cases a ha)

  pub merge : Merged t a b r
  merge =
      record {
        table = record { size = J.size; low = low; fixed = fixed };
        entry = λ x h. rw (le-leb _ _ le) (J.entry x h);
        to = to;
        from = from;
      }

flip : (t : List ℕ) (a b x y : ℕ) → JoinedBy t a b x y → JoinedBy t b a x y
flip t a b x y = ⊎_elim inl (⊎_elim (λ p. inr (inr p)) (λ p. inr (inl p)))

-- where b's class is the lower one
pub merge_flip : (t r : List ℕ) (a b : ℕ) → class t b < class t a → Relabelled t (class t b) (class t a) r → Merged t b a r → Merged t a b r
merge_flip t r a b l J m =
    record {
      table = m.table;
      entry = λ x h. rw (lt-leb _ _ l) (J.entry x h);
      to = λ x y hx hy e. flip t b a x y (m.to x y hx hy e);
      from = λ x y hx hy j. m.from x y hx hy (flip t a b x y j);
    }

-- by roots
pub unite_up : (t r : List ℕ) (c d a b : ℕ) → Table t → a < 64 → b < 64 → c ≡ class t a → d ≡ class t b → c ≤ d → Relabelled t c d r → Merged t a b r
unite_up t r c d a b T ha hb e f l J = merge t r a b ha hb T (rw (sym e, sym f) l) (rw (sym e, sym f) J)

pub unite_down : (t r : List ℕ) (c d a b : ℕ) → Table t → a < 64 → b < 64 → c ≡ class t a → d ≡ class t b → d < c → Relabelled t d c r → Merged t a b r
unite_down t r c d a b T ha hb e f l J =
    merge_flip t r a b (rw (sym e, sym f) l) (rw (sym e, sym f) J) (merge t r b a hb ha T (omega (arith, e, f)) (rw (sym e, sym f) J))
