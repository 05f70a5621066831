-- What one node adds to the sums of the peel: to those that its class waits for, to the classes that are left, to all classes; and the
-- classes of known nodes.
use mathlib.Core.Path.{◌≡◌, sym, ◌∙◌, ap}
use mathlib.Core.Bool.{Bool, true, false}
use mathlib.Core.Logic.{⊎_elim}
use mathlib.Core.List.{List}
use Prim.Native.Nat.{ℕ, ◌≤◌, ◌<◌}
use native.Mathlib.Omega.{arith}
use lib.ListN.{length, get_or}
use borrow.Author.Tests.{eq-eqb, ne_eqb}
use Rattle.std.specs.Prelude.{Option, Some, None}
use Rattle.std.proofs.lemmas.Bool.{cases_eq}
use Rattle.base.proofs.SumLaws.{sum_at, sum_most}
use Rattle.base.proofs.TabLaws.{tab_get_d}
use Rattle.store.specs.Views.{arity_at, child_at, children_at}
use Rattle.store.specs.declared.Terms.{Terms}
use Rattle.store.proofs.ViewLaws.{children_length}
use Rattle.solve_classes.specs.Table.{class, root, Table}
use Rattle.solve_classes.proofs.TableLaws.{class_small}
use Rattle.solve_trace.specs.Nodes.{IsFunctor, Formed}
use Rattle.solve_heights.proofs.OptionLaws.{none_or_some}
use Rattle.solve_heights.specs.Nodes.{IsClass, under}
use Rattle.solve_heights.specs.Peel.{height_at, left_at, left, classes}
use Rattle.solve_heights.specs.Passes.{pending_at, wait_at}

pub wait_in : (t : List ℕ) (p : List Bool) (c u : ℕ) → class t u ≡ c → pending_at p u ≡ true → wait_at t p c u ≡ 1
wait_in t p c u e d = rw (eq-eqb _ _ e, d)

pub wait_out : (t : List ℕ) (p : List Bool) (c u : ℕ) → (class t u ≡ c → ⊥) → wait_at t p c u ≡ 0
wait_out t p c u d = rw (ne_eqb _ _ d)

pub wait_done : (t : List ℕ) (p : List Bool) (c u : ℕ) → pending_at p u ≡ false → wait_at t p c u ≡ 0
wait_done t p c u d = ⊎_elim (λ e. rw (eq-eqb (class t u) c e, d)) (wait_out t p c u) (cases_eq (class t u) c)

pub left_one : (t : List ℕ) (h : List (Option ℕ)) (c : ℕ) → class t c ≡ c → height_at h c ≡ None → left_at t h c ≡ 1
left_one t h c e q = rw (eq-eqb _ _ e, q)

pub left_other : (t : List ℕ) (h : List (Option ℕ)) (c : ℕ) → (class t c ≡ c → ⊥) → left_at t h c ≡ 0
left_other t h c d = rw (ne_eqb (class t c) c d)

pub left_gone : (t : List ℕ) (h : List (Option ℕ)) (c a : ℕ) → height_at h c ≡ Some a → left_at t h c ≡ 0
left_gone t h c a d =
    ⊎_elim
    (λ e. rw (eq-eqb (class t c) c e, d))
    (left_other t h c)
    (cases_eq (class t c) c)

-- what leaves a height alone leaves the count alone
pub left_same : (t : List ℕ) (h next : List (Option ℕ)) (c : ℕ) → height_at next c ≡ height_at h c → left_at t h c ≡ left_at t next c
left_same t h next c e = rw e

pub root_one : (t : List ℕ) (c : ℕ) → class t c ≡ c → root t c ≡ 1
root_one t c e = rw (eq-eqb _ _ e)

pub root_none : (t : List ℕ) (c : ℕ) → (class t c ≡ c → ⊥) → root t c ≡ 0
root_none t c d = rw (ne_eqb _ _ d)

pub root_most : (t : List ℕ) (c : ℕ) → root t c ≤ 1
root_most t c = grind arith

pub classes_most : (g : Terms) (t : List ℕ) → classes g t ≤ g.count
classes_most g t = sum_most (root t) g.count (λ i h. root_most t i)

module _ (g : Terms) (t : List ℕ) (T : Table t) (F : Formed g) where
  pub class_low : (u : ℕ) → u < g.count → class t u < 64
  class_low u k = class_small T u (omega (arith, F.most))

  pub is_class : (u : ℕ) → u < g.count → IsClass g t (class t u)
  is_class u k =
      let l : u < 64 = omega (arith, F.most) in
      record { known = omega (arith, T.low u l); lowest = T.fixed u l }

  pub under_low : (u j : ℕ) → IsFunctor g u → j < arity_at g u → under g t u j < 64
  under_low u j U k = class_low (child_at g u j) (omega (arith, F.earlier u j U.known k, U.known))

-- the height of a child's class, read in two steps
pub through : (t : List ℕ) (h : List (Option ℕ)) {x y c : ℕ} → x ≡ y → c ≡ class t x → height_at h (class t y) ≡ height_at h c
through t h p q = ap (λ (z : ℕ). height_at h (class t z)) (sym p) ∙ ap (height_at h) (sym q)

-- every class went
pub none_left : (g : Terms) (t : List ℕ) (h : List (Option ℕ)) → left g t h ≡ 0 → (c : ℕ) → IsClass g t c → (a : ℕ) × (height_at h c ≡ Some a)
none_left g t h z c C =
    ⊎_elim
    (λ e. absurd (omega (arith, z, sum_at (left_at t h) g.count c C.known, left_one t h c C.lowest e)))
    (λ w. w)
    (none_or_some (height_at h c))

-- an element of a node's children is a child
pub nth_child : (g : Terms) (u : ℕ) {xs : List ℕ} (j : ℕ) → xs ≡ children_at g u → j < length xs
    → (j < arity_at g u) × (get_or xs j 0 ≡ child_at g u j)
nth_child g u {xs} j e l =
    let k : j < arity_at g u = omega (arith, l, ap length e, children_length g u) in
    (k, ap (λ ys. get_or ys j 0) e ∙ tab_get_d (arity_at g u) (child_at g u) j 0 k)
