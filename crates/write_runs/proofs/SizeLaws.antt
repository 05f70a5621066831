-- How large a class can be: with k merges behind it, no class has more than k + 1 nodes.
use mathlib.Core.Path.{◌≡◌, refl, sym, ◌∙◌}
use mathlib.Core.Bool.{Bool, true, false, cond}
use mathlib.Core.List.{List}
use mathlib.Core.Logic.{⊎_elim}
use Prim.Native.Nat.{ℕ, zero, suc, ◌+◌, ◌≤◌, ◌<◌}
use native.Mathlib.Nat.{eq-or-lt_of_le}
use native.Mathlib.Omega.{arith}
use lib.Dec.{eqb, leb}
use borrow.Author.Tests.{eqb-true, eqb-false, eq-eqb, ne_eqb}
use Rattle.solve_classes.specs.Table.{class, Merged, merged_class, member_at, root, class_count}
use Rattle.base.specs.Sum.{sum_to}

-- at i at most one of "lowest of its class" and "in class c" holds, but for i = c
both : (t : List ℕ) (c i : ℕ) → (c ≡ i → ⊥) → root t i + member_at t c i ≤ 1
both t c i d = go (eqb (class t i) i) (eqb (class t i) c) refl refl
  where
    go : (p q : Bool) → eqb (class t i) i ≡ p → eqb (class t i) c ≡ q → cond p 1 0 + cond q 1 0 ≤ 1
    go true true e f = absurd (d (sym (eqb-true _ _ f) ∙ eqb-true _ _ e))
    go true false e f = omega arith
    go false true e f = omega arith
    go false false e f = omega arith

most : (b : Bool) → ◌≤◌ (cond b 1 0) 1
most true = omega arith
most false = omega arith

-- as many classes and members as nodes, and one more once c was passed
counted : (t : List ℕ) (c n : ℕ) → (n ≤ c → sum_to (root t) n + sum_to (member_at t c) n ≤ n) × (sum_to (root t) n + sum_to (member_at t c) n ≤ n + 1)
unfolding sum_to
counted t c zero = (λ h. omega arith, omega arith)
counted t c (suc n) = (λ h. omega (arith, (counted t c n).0 (omega arith), both t c n (λ e. omega (arith, e))), go (eqb c n) refl (counted t c n))
  where
    go : (q : Bool) → eqb c n ≡ q → (n ≤ c → sum_to (root t) n + sum_to (member_at t c) n ≤ n) × (sum_to (root t) n + sum_to (member_at t c) n ≤ n + 1)
        → sum_to (root t) n + root t n + (sum_to (member_at t c) n + member_at t c n) ≤ suc n + 1
    go true e p = omega (arith, p.0 (omega (arith, eqb-true c n e)), most (eqb (class t n) n), most (eqb (class t n) c))
    go false e p = omega (arith, p.1, both t c n (eqb-false c n e))

pub grows : (f : ℕ → ℕ) (n m : ℕ) → n ≤ m → sum_to f n ≤ sum_to f m
unfolding sum_to
grows f n zero h = let e : n ≡ 0 = omega arith in rw e (omega arith)
grows f n (suc m) h = ⊎_elim (λ q. rw q (omega arith)) (λ q. omega (arith, grows f n m (omega arith))) (eq-or-lt_of_le h)

pub class_size : (t : List ℕ) (c n : ℕ) → n ≤ 64 → sum_to (member_at t c) n + class_count t ≤ 65
class_size t c n h =
    omega (arith, grows (member_at t c) n 64 h, (counted t c 64).1)

-- ---- the number of classes

-- the root that goes
abbrev gone : (ℕ → ℕ) → ℕ → ℕ → ℕ
gone c a b = cond (leb (c a) (c b)) (c b) (c a)

keeps : (c : ℕ → ℕ) (a b i : ℕ) → c i ≡ i → (i ≡ gone c a b → ⊥) → merged_class c a b i ≡ i
keeps c a b i e d = go (leb (c a) (c b)) d
  where
    go : (q : Bool) → (i ≡ cond q (c b) (c a) → ⊥) → cond q (cond (eqb (c i) (c b)) (c a) (c i)) (cond (eqb (c i) (c a)) (c b) (c i)) ≡ i
    go true f = rw (ne_eqb (c i) (c b) (λ z. f (sym e ∙ z))) e
    go false f = rw (ne_eqb (c i) (c a) (λ z. f (sym e ∙ z))) e

module _ (t r : List ℕ) (a b : ℕ) (M : Merged t a b r) where
  root_kept : (i : ℕ) → i < 64 → (i ≡ gone (class t) a b → ⊥) → root t i ≤ root r i
  root_kept i h d = go (eqb (class t i) i) refl
    where
      go : (q : Bool) → eqb (class t i) i ≡ q → cond q 1 0 ≤ root r i
      go true e =
          let z : class r i ≡ i = M.entry i h ∙ keeps (class t) a b i (eqb-true _ _ e) d in
          let one : root r i ≡ 1 = (rw (eq-eqb (class r i) i z)) in
          omega arith
      go false e = omega arith

  fewer : (n : ℕ) → n ≤ 64 → (n ≤ gone (class t) a b → sum_to (root t) n ≤ sum_to (root r) n) × (sum_to (root t) n ≤ sum_to (root r) n + 1)
  unfolding sum_to
  fewer zero h = (λ k. omega arith, omega arith)
  fewer (suc n) h =
      (λ k. omega (arith, (fewer n (omega arith)).0 (omega arith), root_kept n h (λ e. omega (arith, e))), go (eqb n (gone (class t) a b)) refl (fewer n (omega arith)))
    where
      go : (q : Bool) → eqb n (gone (class t) a b) ≡ q
          → (n ≤ gone (class t) a b → sum_to (root t) n ≤ sum_to (root r) n) × (sum_to (root t) n ≤ sum_to (root r) n + 1)
          → sum_to (root t) n + root t n ≤ sum_to (root r) n + root r n + 1
      go true e p = omega (arith, p.0 (omega (arith, eqb-true n (gone (class t) a b) e)), most (eqb (class t n) n))
      go false e p = omega (arith, p.1, root_kept n h (eqb-false n (gone (class t) a b) e))

  -- a merge takes away one class at most
  pub one_fewer : class_count t ≤ class_count r + 1
  one_fewer = (fewer 64 (omega arith)).1
