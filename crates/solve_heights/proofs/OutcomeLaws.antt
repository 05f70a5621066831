-- What the peel says of a state whose closure the table is: a solution where nothing is left, else a cycle; and a node below itself is
-- in a class that is left.
use mathlib.Core.Path.{◌≡◌, sym, ◌∙◌, ap}
use mathlib.Core.Logic.{inr, ⊎_elim}
use mathlib.Core.List.{List}
use Prim.Native.Nat.{ℕ, ◌<◌}
use native.Mathlib.Omega.{arith}
use Rattle.std.specs.Prelude.{Option, Some, None}
use Rattle.std.specs.Option.{unwrap_or}
use Rattle.graph.specs.State.{State, functor, NodeAt, ChildAt}
use Rattle.graph.specs.Closure.{Below, child, same_below, Cycle}
use Rattle.graph.specs.Solution.{Solution}
use Rattle.graph.proofs.ClosureLaws.{KeepsBelow, below_least}
use Rattle.store.specs.Views.{arity_at, child_at}
use Rattle.store.specs.declared.Terms.{Terms}
use Rattle.store.proofs.ViewLaws.{child_found, child_known}
use Rattle.solve_classes.specs.Table.{class, Table}
use Rattle.solve_classes.specs.Exact.{Exact}
use Rattle.std.proofs.lemmas.Bool.{cases_eq}
use Rattle.base.proofs.SumLaws.{sum_some}
use Rattle.solve_trace.specs.Nodes.{Nodes, IsFunctor, Formed}
use Rattle.solve_trace.proofs.NodeLaws.{functor_found, functor_known, known}
use Rattle.solve_heights.specs.Peel.{height_at, left_at, Peeled}
use Rattle.solve_heights.specs.declared.Heights.{Heights}
use Rattle.solve_heights.proofs.OptionLaws.{none_or_some}
use Rattle.solve_heights.proofs.SummandLaws.{left_gone, left_other, is_class, none_left}
use Rattle.solve_heights.proofs.CycleLaws.{Next, cycle_among}

-- a child of the state, read off the arrays
pub child_under : (g : Terms) (s : State) → Nodes g s → (u f i v : ℕ) (cs : List ℕ) → NodeAt s u (functor f cs) → ChildAt cs i v
    → IsFunctor g u × ((i < arity_at g u) × (child_at g u i ≡ v))
child_under g s N u f i v cs m c =
    let K = functor_known g s N u f cs m in
    (K.0, child_known g u i v (rw (← K.1.1) at c))

module _ (g : Terms) (s : State) (t : List ℕ) (p : Heights) (T : Table t) (F : Formed g) (N : Nodes g s) (E : Exact s t) (P : Peeled g t p) where
  -- the height of node u's class
  abbrev pub class_height : ℕ → Option ℕ
  class_height u = height_at p.height (class t u)

  -- where nothing is left, each known node's class went
  module _ (z : p.left ≡ 0) where
    -- the heights as a solution has them
    abbrev pub height_of : ℕ → ℕ
    height_of u = unwrap_or (class_height u) 0

    pub all_went : (u : ℕ) → u < g.count → class_height u ≡ Some (height_of u)
    all_went u l = some_unwrapped (class_height u) (none_left g t p.height (omega (arith, z, P.count)) (class t u) (is_class g t T F u l))
      where
        some_unwrapped : (o : Option ℕ) → (a : ℕ) × (o ≡ Some a) → o ≡ Some (unwrap_or o 0)
        some_unwrapped o w = rw w.1

    abbrev pub solution : Solution s
    solution =
        record {
          classes = E.classes;
          height = height_of;
          level = λ u v hu hv q. ap (λ (c : ℕ). unwrap_or (height_at p.height c) 0) (sym (E.table u) ∙ q ∙ E.table v);
          lower = λ u f i v cs m c.
              let K = child_under g s N u f i v cs m c in
              let w = P.lower u i (height_of u) K.0 K.1.0 (all_went u K.0.known) in
              let e : height_of v ≡ w.0 = ap (λ (o : Option ℕ). unwrap_or o 0) (rw K.1.1 at w.1.1) in
              omega (arith, w.1.0, e);
        }

  -- nodes of classes that are left
  record Left (x : ℕ) : Type 0 where
    node : x < g.count
    stays : class_height x ≡ None

  below : (x : ℕ) → Left x → Next s Left x
  below x L =
      let B = P.stuck (class t x) (is_class g t T F x L.node) L.stays in
      let u = B.node in
      let j = B.stuck.place in
      let U = B.stuck.functor in
      let y = child_at g u j in
      let low : y < g.count = omega (arith, F.earlier u j U.known B.stuck.within, U.known) in
      inr (
        y,
        (
          record { node = low; stays = B.stuck.stays },
          same_below (E.only x u (known g s N x L.node) (known g s N u U.known) (sym B.inside))
              (child j (functor_found g s N u U) (child_found g u j B.stuck.within)),
        ),
      )

  pub cycle : (p.left ≡ 0 → ⊥) → Cycle s
  cycle d =
      let W = sum_some (left_at t p.height) g.count (omega (arith, P.count)) in
      let c = W.0 in
      ⊎_elim
      (λ r.
      ⊎_elim
      (λ q. cycle_among s g.count Left (λ x L. L.node) below c (record { node = W.1.0; stays = ap (height_at p.height) r ∙ q }))
      (λ q. absurd (omega (arith, W.1.1, left_gone t p.height c q.0 q.1)))
      (none_or_some (height_at p.height c)))
      (λ r. absurd (omega (arith, W.1.1, left_other t p.height c r)))
      (cases_eq (class t c) c)

  -- down from a class that went all classes went, at lower heights
  Falls : ℕ → ℕ → Type 0
  Falls u v = (a : ℕ) → class_height u ≡ Some a → (b : ℕ) × ((b < a) × (class_height v ≡ Some b))

  falls : KeepsBelow s Falls
  unfolding Falls
  falls = record {
    by_child_lem = λ u f i v cs m c a d. let K = child_under g s N u f i v cs m c in rw (← K.1.1) (P.lower u i a K.0 K.1.0 d);
    by_same_below = λ u v w x y a d. y a (sym (ap (height_at p.height) (E.has x)) ∙ d);
    by_below_same = λ u v w x y a d. let k = x a d in (k.0, (k.1.0, sym (ap (height_at p.height) (E.has y)) ∙ k.1.1));
    by_below_below = λ u v w x y a d. let k = x a d in let m = y k.0 k.1.1 in (m.0, (omega (arith, m.1.0, k.1.0), m.1.1));
  }

  -- a node below itself is in a class that is left
  pub cycle_left : (u : ℕ) → Below s u u → class_height u ≡ None
  unfolding Falls
  cycle_left u b = ⊎_elim (λ e. e) (λ w. absurd (no_fall w.0 w.1)) (none_or_some (class_height u))
    where
      no_fall : (a : ℕ) → class_height u ≡ Some a → ⊥
      no_fall a e =
          let k = below_least s Falls falls b a e in
          let q : Some a ≡ Some k.0 = sym e ∙ k.1.1 in
          let f : a ≡ k.0 = cc in
          omega (arith, f, k.1.0)
