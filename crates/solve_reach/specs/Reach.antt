-- Reachability: which classes lie strictly below a node u, and how each was reached, by the step down into it: `parent` is a functor node,
-- `into` its child at `place`, counted from 1, and a node of the class; `level` is the number of steps down that were counted, from 1 on.
--   down_at   the step down into the class with root d, if it was reached
--   Reaches   the class of node v was reached
--   Ways      what the steps say of each other: from a reached class the way up goes on, at a lower level, to the class of u
--   Edges     each reached class has a step down into it, in the state
--   Searched  all this, and a class was reached exactly when its nodes lie below u
use Rattle.std.specs.Prelude.{◌≡◌, List, ℕ, ◌≤◌, ◌<◌, get_or, Option, Some, None}
use Rattle.std.specs.Option.{IsSome}
use Rattle.std.proofs.Math.Option.{some}
use Rattle.graph.specs.State.{State, IsNode}
use Rattle.graph.specs.Closure.{Below}
use Rattle.graph.specs.Lines.{below, by_child}
use Rattle.solve_classes.specs.Table.{class}
use Rattle.solve_reach.specs.declared.Down.{Down}
use Rattle.solve_reach.specs.declared.Search.{Search}

abbrev pub down_at : Search → ℕ → Option Down
down_at r d = get_or r.reached d None

abbrev pub Reaches : List ℕ → Search → ℕ → Type 0
Reaches t r v = IsSome (down_at r (class t v))

-- from q the way up to u goes on, at a level below l; or q is in u's class
abbrev pub Onward : List ℕ → Search → ℕ → ℕ → ℕ → Type 0
Onward t r u q l = (class t q ≡ class t u → ⊥) → (x : Down) × ((down_at r (class t q) ≡ Some x) × (x.level < l))

-- x is the step down into class d
pub record Ways (t : List ℕ) (r : Search) (u : ℕ) : Type 0 where
  pub parents : (d : ℕ) (x : Down) → d < 64 → down_at r d ≡ Some x → x.parent < 64
  pub childs : (d : ℕ) (x : Down) → d < 64 → down_at r d ≡ Some x → x.into < 64
  pub low : (d : ℕ) (x : Down) → d < 64 → down_at r d ≡ Some x → 1 ≤ x.level
  pub top : (d : ℕ) (x : Down) → d < 64 → down_at r d ≡ Some x → x.level ≤ 64
  pub onward : (d : ℕ) (x : Down) → d < 64 → down_at r d ≡ Some x → Onward t r u x.parent x.level

-- x leads from its parent to its child, of class d
pub record Edge (s : State) (t : List ℕ) (d : ℕ) (x : Down) : Type 0 where
  pub parent_known : IsNode s x.parent
  pub child_known : IsNode s x.into
  pub in_class_lem : class t x.into ≡ d
  pub step : by_child s.nodes x.parent x.place ≡ some (below x.parent x.into)

pub record Edges (s : State) (t : List ℕ) (r : Search) : Type 0 where
  pub at : (d : ℕ) (x : Down) → d < 64 → down_at r d ≡ Some x → Edge s t d x

pub record Searched (s : State) (t : List ℕ) (r : Search) (u : ℕ) : Type 0 where
  pub edges : Edges s t r
  pub reached : (v : ℕ) → IsNode s v → Reaches t r v → Below s u v
  pub complete : (v : ℕ) → Below s u v → Reaches t r v
