-- The arrays read as lists: how many stand there, what is found at a place, and what a find tells of the arrays.
use mathlib.Core.Path.{◌≡◌, refl, ap, ◌∙◌}
use mathlib.Core.Bool.{Bool, true, false, cond}
use mathlib.Core.List.{List}
use mathlib.Core.Option.{some}
use Prim.Native.Nat.{ℕ, ◌<◌}
use native.Mathlib.Omega.{arith}
use lib.Dec.{eqb}
use lib.ListN.{length, get_elem?}
use borrow.Author.Tests.{eq-eqb, ne_eqb, eqb-true}
use Rattle.graph.specs.State.{Node, variable, functor, Equation, IsNode, NodeAt, ChildAt, Held, Proper}
use Rattle.base.proofs.TabLaws.{tab_length, tab_at, tab_known}
use Rattle.store.specs.Views.{kind_at, symbol_at, arity_at, child_at, children_at, node_at, nodes_of, equation_at, equations_of, state_from}
use Rattle.store.specs.Shape.{Shape}
use Rattle.store.specs.declared.Terms.{Terms}
use Rattle.store.specs.declared.Equations.{Equations}

-- ---- nodes

module _ (t : Terms) where
  pub nodes_length : length (nodes_of t) ≡ t.count
  unfolding nodes_of
  nodes_length = tab_length t.count (node_at t)

  pub node_found : (u : ℕ) → u < t.count → get_elem? (nodes_of t) u ≡ some (node_at t u)
  unfolding nodes_of
  node_found u h = tab_at t.count (node_at t) u h

  pub node_known : (u : ℕ) (n : Node) → get_elem? (nodes_of t) u ≡ some n → (u < t.count) × (node_at t u ≡ n)
  unfolding nodes_of
  node_known u n h = tab_known t.count (node_at t) u n h

  pub functor_found : (u : ℕ) → u < t.count → kind_at t u ≡ 1 → get_elem? (nodes_of t) u ≡ some (functor (symbol_at t u) (children_at t u))
  functor_found u h k = node_found u h ∙ rw (eq-eqb _ _ k)

  pub functor_known : (u f : ℕ) (cs : List ℕ) → get_elem? (nodes_of t) u ≡ some (functor f cs)
      → (u < t.count) × (kind_at t u ≡ 1) × (symbol_at t u ≡ f) × (children_at t u ≡ cs)
  functor_known u f cs h =
      let k : (u < t.count) × (node_at t u ≡ functor f cs) = node_known u (functor f cs) h in
      go (eqb (kind_at t u) 1) refl k.0 k.1
    where
      go : (b : Bool) → eqb (kind_at t u) 1 ≡ b → u < t.count → cond b (functor (symbol_at t u) (children_at t u)) variable ≡ functor f cs
          → (u < t.count) × (kind_at t u ≡ 1) × (symbol_at t u ≡ f) × (children_at t u ≡ cs)
      go true e l q = (l, eqb-true _ _ e, cc, cc)
      go false e l q = cc

  -- any kind but 1 is a variable
  pub variable_found : (u : ℕ) → u < t.count → (kind_at t u ≡ 1 → ⊥) → get_elem? (nodes_of t) u ≡ some variable
  variable_found u h k = node_found u h ∙ rw (ne_eqb _ _ k)

  pub children_length : (u : ℕ) → length (children_at t u) ≡ arity_at t u
  children_length u = tab_length (arity_at t u) (child_at t u)

  pub child_found : (u j : ℕ) → j < arity_at t u → ChildAt (children_at t u) j (child_at t u j)
  child_found u j h = tab_at (arity_at t u) (child_at t u) j h

  pub child_known : (u j v : ℕ) → ChildAt (children_at t u) j v → (j < arity_at t u) × (child_at t u j ≡ v)
  child_known u j v h = tab_known (arity_at t u) (child_at t u) j v h

-- ---- equations

module _ (e : Equations) where
  pub equations_length : length (equations_of e) ≡ e.count
  unfolding equations_of
  equations_length = tab_length e.count (equation_at e)

  pub equation_found : (k : ℕ) → k < e.count → get_elem? (equations_of e) k ≡ some (equation_at e k)
  unfolding equations_of
  equation_found k h = tab_at e.count (equation_at e) k h

  pub equation_known : (k : ℕ) (d : Equation) → get_elem? (equations_of e) k ≡ some d → (k < e.count) × (equation_at e k ≡ d)
  unfolding equations_of
  equation_known k d h = tab_known e.count (equation_at e) k d h

-- ---- the state

module _ (t : Terms) (e : Equations) where
  pub node_in : (u : ℕ) → u < t.count → IsNode (state_from t e) u
  node_in u h = rw nodes_length h

  pub node_counted : (u : ℕ) → IsNode (state_from t e) u → u < t.count
  node_counted u h = rw nodes_length at h

  pub held_known : (d : Equation) → Held (state_from t e) d → (k : ℕ) × (k < e.count) × (equation_at e k ≡ d)
  held_known d h =
      let k : (h.0 < e.count) × (equation_at e h.0 ≡ d) = equation_known e h.0 d h.1 in
      (h.0, k.0, k.1)

  pub shape_proper : Shape t e → Proper (state_from t e)
  shape_proper s = record { earlier = child_earlier; left_known = left_in; right_known = right_in }
    where
      child_earlier : (u f i v : ℕ) (cs : List ℕ) → NodeAt (state_from t e) u (functor f cs) → ChildAt cs i v → v < u
      child_earlier u f i v cs n c =
          let k : (u < t.count) × (kind_at t u ≡ 1) × (symbol_at t u ≡ f) × (children_at t u ≡ cs) = functor_known t u f cs n in
          let d : (i < arity_at t u) × (child_at t u i ≡ v) = child_known t u i v (rw k.3 c) in
          let r : child_at t u i < u = s.terms.earlier u i (omega (arith, k.0, s.terms.few)) d.0 in
          rw d.1 at r

      left_in : (d : Equation) → Held (state_from t e) d → IsNode (state_from t e) d.left
      left_in d h =
          let k : (k : ℕ) × (k < e.count) × (equation_at e k ≡ d) = held_known d h in
          node_in d.left (rw (ap (λ (x : Equation). x.left) k.2) at (s.equations.lefts k.0 k.1))

      right_in : (d : Equation) → Held (state_from t e) d → IsNode (state_from t e) d.right
      right_in d h =
          let k : (k : ℕ) × (k < e.count) × (equation_at e k ≡ d) = held_known d h in
          node_in d.right (rw (ap (λ (x : Equation). x.right) k.2) at (s.equations.rights k.0 k.1))
