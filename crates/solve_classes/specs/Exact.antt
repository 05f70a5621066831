-- A class table holds the unification closure of a state.
--   Sound   what the table joins stands in the closure
--   Exact   it joins two nodes exactly when they stand in the closure, and no class has two labels
use Rattle.std.specs.Prelude.{◌≡◌, List, ℕ}
use Rattle.graph.specs.State.{State, IsNode}
use Rattle.graph.specs.Closure.{Same}
use Rattle.graph.specs.Solution.{Classes}
use Rattle.solve_classes.specs.Table.{class}

abbrev pub Sound : State → List ℕ → Type 0
Sound s t = (u v : ℕ) → IsNode s u → IsNode s v → class t u ≡ class t v → Same s u v

pub record Exact (s : State) (t : List ℕ) : Type 0 where
  pub classes : Classes s
  pub table : (u : ℕ) → classes.class u ≡ class t u
  pub has : {u v : ℕ} → Same s u v → class t u ≡ class t v
  pub only : Sound s t
