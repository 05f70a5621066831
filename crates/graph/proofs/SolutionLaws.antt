-- What a solution rules out, what it serves, and that the verdict is one.
use mathlib.Core.Path.{◌≡◌, refl, sym, ◌∙◌}
use Prim.Native.Nat.{ℕ, ◌<◌}
use native.Mathlib.Omega.{arith}
use Rattle.graph.specs.State.{Node, Equation, State, IsNode, NodeAt, Held, Proper}
use Rattle.graph.specs.Closure.{Same, equation, reflexivity, symmetry, transitivity, down, Below, child, same_below, below_same, below_below, Clash, Cycle}
use Rattle.graph.specs.Solution.{Classes, Solution}
use Rattle.graph.specs.Verdict.{Verdict, clashes, cycles, solvable}
use Rattle.graph.proofs.ClosureLaws.{same_known}

-- classes alone rule out a clash
module _ (s : State) (C : Classes s) where
  pub same_class : {u v : ℕ} → Same s u v → C.class u ≡ C.class v
  same_class (equation {e} h) = C.equated e h
  same_class (reflexivity k) = refl
  same_class (symmetry p) = sym (same_class p)
  same_class (transitivity p q) = same_class p ∙ same_class q
  same_class (down {u} {v} {f} {g} {x} {y} {cs} {ds} i p n m l c d) = C.place u v f g i x y cs ds n m (same_class p) c d

  pub classes_no_clash : Clash s → ⊥
  classes_no_clash c = c.differ (C.label c.u c.v c.f c.g c.cs c.ds c.at_u c.at_v (same_class c.joins))

-- a solution of a proper state rules out a cycle
module _ (s : State) (P : Proper s) (S : Solution s) where
  same_height : {u v : ℕ} → Same s u v → S.height u ≡ S.height v
  same_height {u} {v} p = S.level u v (same_known s P p).0 (same_known s P p).1 (same_class s S.classes p)

  pub below_height : {u v : ℕ} → Below s u v → S.height v < S.height u
  below_height (child {u} {f} {v} {cs} i n c) = S.lower u f i v cs n c
  below_height (same_below p q) = omega (arith, same_height p, below_height q)
  below_height (below_same p q) = omega (arith, below_height p, same_height q)
  below_height (below_below p q) = omega (arith, below_height p, below_height q)

  pub solution_no_cycle : Cycle s → ⊥
  solution_no_cycle c = omega (arith, below_height c.back)

  pub solution_no_clash : Clash s → ⊥
  solution_no_clash = classes_no_clash s S.classes

  pub solution_verdict : Verdict s 0
  solution_verdict = solvable solution_no_clash solution_no_cycle

pub verdict_unique : (s : State) {m n : ℕ} → Verdict s m → Verdict s n → m ≡ n
verdict_unique s (clashes x) (clashes y) = refl
verdict_unique s (clashes x) (cycles y z) = absurd (search)
verdict_unique s (clashes x) (solvable y z) = absurd (search)
verdict_unique s (cycles x w) (clashes y) = absurd (search)
verdict_unique s (cycles x w) (cycles y z) = refl
verdict_unique s (cycles x w) (solvable y z) = absurd (search)
verdict_unique s (solvable x w) (clashes y) = absurd (search)
verdict_unique s (solvable x w) (cycles y z) = absurd (search)
verdict_unique s (solvable x w) (solvable y z) = refl

-- s has d's nodes, and d holds what s holds
pub record Fewer (s d : State) : Type 0 where
  pub nodes_same : s.nodes ≡ d.nodes
  pub held_in : (e : Equation) → Held s e → Held d e

-- a solution serves any fewer equations
module _ (s d : State) (w : Fewer s d) where
  node_in : (u : ℕ) (n : Node) → NodeAt s u n → NodeAt d u n
  node_in u n p = rw w.nodes_same at p

  known_in : (u : ℕ) → IsNode s u → IsNode d u
  known_in u p = rw w.nodes_same at p

  pub classes_fewer : Classes d → Classes s
  classes_fewer C = record {
    class = C.class;
    equated = λ e h. C.equated e (w.held_in e h);
    label = λ u v f g cs ds p q. C.label u v f g cs ds (node_in u _ p) (node_in v _ q);
    place = λ u v f g i x y cs ds p q. C.place u v f g i x y cs ds (node_in u _ p) (node_in v _ q);
  }

  pub solution_fewer : Solution d → Solution s
  unfolding classes_fewer
  solution_fewer S = record {
    classes = classes_fewer S.classes;
    height = S.height;
    level = λ u v p q. S.level u v (known_in u p) (known_in v q);
    lower = λ u f i v cs p. S.lower u f i v cs (node_in u _ p);
  }

  pub proper_fewer : Proper d → Proper s
  proper_fewer P = record {
    earlier = λ u f i v cs p. P.earlier u f i v cs (node_in u _ p);
    left_known = λ e h. rw (← w.nodes_same) at (P.left_known e (w.held_in e h));
    right_known = λ e h. rw (← w.nodes_same) at (P.right_known e (w.held_in e h));
  }
