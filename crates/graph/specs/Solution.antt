-- What solves a state (document 01, "Closure and solution": the finite solution of demand 3).
--   Classes    a number for each node, its class: equated nodes have one class; functor nodes of one class have the same label
--              and, place by place, children of one class. It rules out a clash, where there need be no solution
--   Solution   classes, and a height for each node: nodes of one class have the same height, a child's is less than its parent's
use Rattle.std.specs.Prelude.{◌≡◌, List, ℕ, ◌<◌}
use Rattle.graph.specs.State.{Equation, State, functor, IsNode, NodeAt, ChildAt, Held, EqualLabels}

pub record Classes (s : State) : Type 0 where
  pub class : ℕ → ℕ
  pub equated : (e : Equation) → Held s e → class e.left ≡ class e.right
  pub label : (u v f g : ℕ) (cs ds : List ℕ) → NodeAt s u (functor f cs) → NodeAt s v (functor g ds) → class u ≡ class v → EqualLabels f g
  pub place : (u v f g i x y : ℕ) (cs ds : List ℕ) → NodeAt s u (functor f cs) → NodeAt s v (functor g ds) → class u ≡ class v
      → ChildAt cs i x → ChildAt ds i y → class x ≡ class y

pub record Solution (s : State) : Type 0 where
  pub classes : Classes s
  pub height : ℕ → ℕ
  pub level : (u v : ℕ) → IsNode s u → IsNode s v → classes.class u ≡ classes.class v → height u ≡ height v
  pub lower : (u f i v : ℕ) (cs : List ℕ) → NodeAt s u (functor f cs) → ChildAt cs i v → height v < height u
