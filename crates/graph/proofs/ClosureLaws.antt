-- The closure is least, it grows with the state, and it joins known nodes.
use mathlib.Core.List.{List}
use Prim.Native.Nat.{ℕ}
use native.Mathlib.Omega.{arith}
use Rattle.graph.specs.State.{Node, functor, Equation, State, IsNode, NodeAt, ChildAt, Held, EqualLabels, Proper}
use Rattle.graph.specs.Closure.{Same, equation, reflexivity, symmetry, transitivity, down, Below, child, same_below, below_same, below_below}
use Rattle.base.proofs.ListLaws.{found_lt}

-- ---- least

-- R keeps the rules of `Same`
pub record Keeps (s : State) (R : ℕ → ℕ → Type 0) : Type 0 where
  pub by_equation_lem : (e : Equation) → Held s e → R e.left e.right
  pub by_reflexivity_lem : (u : ℕ) → IsNode s u → R u u
  pub by_symmetry_lem : (u v : ℕ) → R u v → R v u
  pub by_transitivity_lem : (u v w : ℕ) → R u v → R v w → R u w
  pub by_down : (u v f g x y i : ℕ) (cs ds : List ℕ) → R u v → NodeAt s u (functor f cs) → NodeAt s v (functor g ds)
      → EqualLabels f g → ChildAt cs i x → ChildAt ds i y → R x y

module _ (s : State) (R : ℕ → ℕ → Type 0) (k : Keeps s R) where
  pub same_least : {u v : ℕ} → Same s u v → R u v
  same_least (equation {e} h) = k.by_equation_lem e h
  same_least (reflexivity {u} h) = k.by_reflexivity_lem u h
  same_least (symmetry {u} {v} p) = k.by_symmetry_lem u v (same_least p)
  same_least (transitivity p q) = k.by_transitivity_lem _ _ _ (same_least p) (same_least q)
  same_least (down {u} {v} {f} {g} {x} {y} {cs} {ds} i p n m l c d) = k.by_down u v f g x y i cs ds (same_least p) n m l c d

-- Q keeps the rules of `Below`
pub record KeepsBelow (s : State) (Q : ℕ → ℕ → Type 0) : Type 0 where
  pub by_child_lem : (u f i v : ℕ) (cs : List ℕ) → NodeAt s u (functor f cs) → ChildAt cs i v → Q u v
  pub by_same_below : (u v w : ℕ) → Same s u v → Q v w → Q u w
  pub by_below_same : (u v w : ℕ) → Q u v → Same s v w → Q u w
  pub by_below_below : (u v w : ℕ) → Q u v → Q v w → Q u w

module _ (s : State) (Q : ℕ → ℕ → Type 0) (k : KeepsBelow s Q) where
  pub below_least : {u v : ℕ} → Below s u v → Q u v
  below_least (child {u} {f} {v} {cs} i n c) = k.by_child_lem u f i v cs n c
  below_least (same_below {u} {v} {w} p q) = k.by_same_below u v w p (below_least q)
  below_least (below_same {u} {v} {w} p q) = k.by_below_same u v w (below_least p) q
  below_least (below_below p q) = k.by_below_below _ _ _ (below_least p) (below_least q)

-- ---- known nodes

module _ (s : State) (P : Proper s) where
  pub child_known : (u f i v : ℕ) (cs : List ℕ) → NodeAt s u (functor f cs) → ChildAt cs i v → IsNode s v
  child_known u f i v cs n c = omega (arith, found_lt s.nodes u (functor f cs) n, P.earlier u f i v cs n c)

  pub same_known : {u v : ℕ} → Same s u v → IsNode s u × IsNode s v
  same_known (equation {e} h) = (P.left_known e h, P.right_known e h)
  same_known (reflexivity k) = (k, k)
  same_known (symmetry p) = ((same_known p).1, (same_known p).0)
  same_known (transitivity p q) = ((same_known p).0, (same_known q).1)
  same_known (down {u} {v} {f} {g} {x} {y} {cs} {ds} i p n m l c d) = (child_known u f i x cs n c, child_known v g i y ds m d)

  pub below_known : {u v : ℕ} → Below s u v → IsNode s u × IsNode s v
  below_known (child {u} {f} {v} {cs} i n c) = (found_lt s.nodes u (functor f cs) n, child_known u f i v cs n c)
  below_known (same_below p q) = ((same_known p).0, (below_known q).1)
  below_known (below_same p q) = ((below_known p).0, (same_known q).1)
  below_known (below_below p q) = ((below_known p).0, (below_known q).1)

-- ---- growth

-- all that stands in s stands in d at its place
pub record Grows (s d : State) : Type 0 where
  pub nodes_stay : (u : ℕ) (n : Node) → NodeAt s u n → NodeAt d u n
  pub known_stay : (u : ℕ) → IsNode s u → IsNode d u
  pub held_stay : (e : Equation) → Held s e → Held d e

module _ (s d : State) (g : Grows s d) where
  pub same_grows : {u v : ℕ} → Same s u v → Same d u v
  same_grows (equation {e} h) = equation (g.held_stay e h)
  same_grows (reflexivity {u} k) = reflexivity (g.known_stay u k)
  same_grows (symmetry p) = symmetry (same_grows p)
  same_grows (transitivity p q) = transitivity (same_grows p) (same_grows q)
  same_grows (down {u} {v} {cs = cs} {ds = ds} i p n m l x y) = down i (same_grows p) (g.nodes_stay u _ n) (g.nodes_stay v _ m) l x y

  pub below_grows : {u v : ℕ} → Below s u v → Below d u v
  below_grows (child {u} {f} {v} {cs} i n q) = child i (g.nodes_stay u (functor f cs) n) q
  below_grows (same_below p q) = same_below (same_grows p) (below_grows q)
  below_grows (below_same p q) = below_same (below_grows p) (same_grows q)
  below_grows (below_below p q) = below_below (below_grows p) (below_grows q)
