-- The unification closure of a state (document 001, section 3), and its two faults.
--   Same    document 01's closure: the least equivalence on the nodes that contains the equations and in which equal functor
--           nodes with equal labels have equal children, place by place. It goes down only: it is no congruence
--   Below   the quotient graph leads down, by one step or more: stepping from parent to child, and freely within a class
--   Clash   the closure joins two functor nodes of different labels
--   Cycle   a node lies below itself
-- Inductive is what "least" means here; `same_least` and `below_least` of proofs/ClosureLaws say so.
use Rattle.std.specs.Prelude.{List, ℕ}
use Rattle.graph.specs.State.{Equation, State, functor, IsNode, NodeAt, ChildAt, Held, EqualLabels}

pub data Same (s : State) : ℕ → ℕ → Type 0 where
  equation : {e : Equation} → Held s e → Same s e.left e.right
  reflexivity : {u : ℕ} → IsNode s u → Same s u u
  symmetry : {u v : ℕ} → Same s u v → Same s v u
  transitivity : {u v w : ℕ} → Same s u v → Same s v w → Same s u w
  down : {u v f g x y : ℕ} {cs ds : List ℕ} (i : ℕ) → Same s u v → NodeAt s u (functor f cs) → NodeAt s v (functor g ds)
      → EqualLabels f g → ChildAt cs i x → ChildAt ds i y → Same s x y

-- Below s u v: v lies below u
pub data Below (s : State) : ℕ → ℕ → Type 0 where
  child : {u f v : ℕ} {cs : List ℕ} (i : ℕ) → NodeAt s u (functor f cs) → ChildAt cs i v → Below s u v
  same_below : {u v w : ℕ} → Same s u v → Below s v w → Below s u w
  below_same : {u v w : ℕ} → Below s u v → Same s v w → Below s u w
  below_below : {u v w : ℕ} → Below s u v → Below s v w → Below s u w

pub record Clash (s : State) : Type 0 where
  pub u : ℕ
  pub v : ℕ
  pub f : ℕ
  pub g : ℕ
  pub cs : List ℕ
  pub ds : List ℕ
  pub at_u : NodeAt s u (functor f cs)
  pub at_v : NodeAt s v (functor g ds)
  pub differ : EqualLabels f g → ⊥
  pub joins : Same s u v

pub record Cycle (s : State) : Type 0 where
  pub u : ℕ
  pub back : Below s u u
