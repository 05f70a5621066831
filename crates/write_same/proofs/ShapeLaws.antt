-- Arrays of the right shape describe the state that they hold.
use mathlib.Core.Path.{◌≡◌, refl, ap}
use mathlib.Core.List.{List}
use mathlib.Core.Option.{some}
use Prim.Native.Nat.{ℕ, zero, suc, ◌≤◌, ◌<◌}
use native.Mathlib.Omega.{arith}
use lib.ListN.{length, get_elem?, get_or}
use borrow.Author.Tests.{eq-eqb, ne_eqb}
use Rattle.graph.specs.State.{functor, Equation, NodeAt, ChildAt}
use Rattle.graph.specs.Lines.{same, named, by_equation}
use Rattle.base.specs.Tab.{tab}
use Rattle.store.specs.declared.Terms.{Terms}
use Rattle.store.specs.declared.Equations.{Equations}
use Rattle.store.specs.Views.{arity_at, child_at, equation_at, equations_of, state_from}
use Rattle.store.specs.Shape.{Shape, EquationsShape}
use Rattle.solve_trace.specs.declared.Entry.{Entry}
use Rattle.solve_trace.specs.Trace.{Traced}
use Rattle.solve_trace.proofs.TraceLaws.{traced_most}
use Rattle.store.proofs.ViewLaws.{nodes_length, equations_length, functor_known, child_known, equation_known, shape_proper}
use Rattle.write_needed.specs.Entries.{AllInRange, Limited}
use Rattle.write_needed.proofs.EntryLaws.{trace_in_range}
use Rattle.write_same.specs.Replay.{Describes}

-- where names are all different, the lookup by a name finds its equation
named_found : (n : ℕ) (f : ℕ → Equation) → ((i j : ℕ) → i < j → j < n → (f i).name ≡ (f j).name → ⊥)
    → (k : ℕ) → k < n → named (tab n f) (f k).name ≡ some (f k)
unfolding tab
named_found zero f d k h = absurd (omega arith)
named_found (suc n) f d zero h = rw (eq-eqb (f 0).name (f 0).name refl)
named_found (suc n) f d (suc k) h =
    rw (ne_eqb (f 0).name (f (suc k)).name (d 0 (suc k) (omega arith) h))
    (named_found n (λ i. f (suc i)) (λ i j l m. d (suc i) (suc j) (omega arith) (omega arith)) k (omega arith))

pub equation_named : (n : ℕ) (q : Equations) → EquationsShape n q → (k : ℕ) → k < q.count
    → by_equation (equations_of q) (get_or q.name k 0) ≡ some (same (get_or q.left k 0) (get_or q.right k 0))
unfolding equations_of
equation_named n q S k h = rw (named_found q.count (equation_at q) S.distinct k h)

module _ (g : Terms) (q : Equations) (S : Shape g q) where
  limited : Limited (state_from g q)
  limited =
      record {
        fits = omega (arith, nodes_length g, S.terms.few);
        few = omega (arith, equations_length q, S.equations.few);
        proper = shape_proper g q S;
      }

  left_at : (k : ℕ) (d : Equation) → get_elem? (equations_of q) k ≡ some d → get_or q.left k 0 ≡ d.left
  left_at k d h = ap (λ (x : Equation). x.left) (equation_known q k d h).1

  right_at : (k : ℕ) (d : Equation) → get_elem? (equations_of q) k ≡ some d → get_or q.right k 0 ≡ d.right
  right_at k d h = ap (λ (x : Equation). x.right) (equation_known q k d h).1

  child_at_lem : (p f i v : ℕ) (cs : List ℕ) → NodeAt (state_from g q) p (functor f cs) → ChildAt cs i v → (i < 4) × (child_at g p i ≡ v)
  child_at_lem p f i v cs n c =
      let k = functor_known g p f cs n in
      let d : (i < arity_at g p) × (child_at g p i ≡ v) = child_known g p i v (rw k.3 c) in
      (omega (arith, d.0, S.terms.arities p (omega (arith, k.0, S.terms.few))), d.1)

  pub shape_describes : Describes g q (state_from g q)
  shape_describes =
      record {
        names =
            record {
              limited = limited;
              count = nodes_length g;
              named = λ k d h.
                  let w = equation_named g.count q S.equations k (equation_known q k d h).0 in
                  let a = left_at k d h in
                  let b = right_at k d h in
                  cc;
            };
        ends =
            record {
              limited = limited;
              lefts = left_at;
              rights = right_at;
              children = child_at_lem;
            };
      }

  -- ---- what the entries of a trace say of the arrays, and how many there are

  module _ {es : List Entry} {t : List ℕ} (T : Traced (state_from g q) es t) where
    pub shape_range : AllInRange g q es
    shape_range = trace_in_range (state_from g q) shape_describes.ends T

    pub shape_steps : length es ≤ 63
    shape_steps = traced_most (state_from g q) limited.proper limited.fits T
