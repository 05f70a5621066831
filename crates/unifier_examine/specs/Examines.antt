-- Whether terms and equations make a workspace, and what the solver finds of those that do.
--   Solved     a workspace: its shape, a solution, and the class table of its closure with the trace that made it
--   Examines   the test is exact: a value for which no table is found has another shape, or no solution
use Rattle.std.specs.Prelude.{List, ℕ, Option, Some, None}
use Rattle.graph.specs.Solution.{Solution}
use Rattle.store.specs.Views.{state_from}
use Rattle.store.specs.Shape.{Shape}
use Rattle.store.specs.declared.Terms.{Terms}
use Rattle.store.specs.declared.Equations.{Equations}
use Rattle.solve_classes.specs.Exact.{Exact}
use Rattle.solve_classes.specs.Members.{Alone}
use Rattle.solve_trace.specs.declared.Entry.{Entry}
use Rattle.solve_trace.specs.Trace.{Traced}
use Rattle.solve_trace.specs.Steps.{TraceFits}

pub record Solved (t : Terms) (e : Equations) (table : List ℕ) (trace : List Entry) : Type 0 where
  pub shape : Shape t e
  pub solution : Solution (state_from t e)
  pub ready : TraceFits table trace
  pub traced : Traced (state_from t e) trace table
  pub exact : Exact (state_from t e) table
  -- nodes that aren't declared are alone
  pub alone : Alone t.count table

abbrev pub Examines : Terms → Equations → List Entry → Option (List ℕ) → Type 0
Examines t e trace None = Shape t e → Solution (state_from t e) → ⊥
Examines t e trace (Some table) = Solved t e table trace
