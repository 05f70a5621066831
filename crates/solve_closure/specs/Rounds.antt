-- What a round and a run of rounds do to the table t and the trace es.
--   settling  the table, and the two nodes of a clash
--   Clashing  two functor nodes of one class and different labels: a clash, as the arrays have it
--   Agree     two functor nodes have one label, and children of one class, place by place
--   Closed    functor nodes of one class agree: the table keeps the rules of the closure
--   Round     a round over all nodes; Rounds: rounds to the end
use Rattle.std.specs.Prelude.{◌≡◌, List, ℕ, ◌<◌, length, Option, Some, None}
use Rattle.solve_classes.specs.Table.{class}
use Rattle.store.specs.Views.{arity_at, child_at}
use Rattle.store.specs.declared.Terms.{Terms}
use Rattle.solve_trace.specs.declared.Entry.{Entry}
use Rattle.solve_trace.specs.Nodes.{Nodes, IsFunctor, Alike}
use Rattle.solve_trace.specs.Steps.{Extends}
use Rattle.solve_closure.specs.declared.Settling.{Settling}

abbrev pub settling : List ℕ → Option (ℕ × ℕ) → Settling
settling t clash = record { table = t; clash = clash }

pub record Clashing (g : Terms) (t : List ℕ) (u v : ℕ) : Type 0 where
  pub left : IsFunctor g u
  pub right : IsFunctor g v
  pub joined : class t u ≡ class t v
  pub differ : Alike g u v → ⊥

pub record Agree (g : Terms) (t : List ℕ) (u v : ℕ) : Type 0 where
  pub alike : Alike g u v
  pub places : (j : ℕ) → j < arity_at g u → class t (child_at g u j) ≡ class t (child_at g v j)

abbrev pub Closed : Terms → List ℕ → Type 0
Closed g t = (u v : ℕ) → IsFunctor g u → IsFunctor g v → class t u ≡ class t v → Agree g t u v

-- a round over all nodes: a clash, or, where nothing was merged, the table is closed
pub record Round (g : Terms) (t : List ℕ) (es : List Entry) (o : Settling) (fs : List Entry) : Type 0 where
  pub extends : Extends (Nodes g) t es o.table fs
  pub clashes : (u v : ℕ) → o.clash ≡ Some (u, v) → Clashing g o.table u v
  pub closes : o.clash ≡ None → length fs ≡ length es → Closed g o.table

-- rounds to the end: a clash, or the table is closed
pub record Rounds (g : Terms) (t : List ℕ) (es : List Entry) (o : Settling) (fs : List Entry) : Type 0 where
  pub extends : Extends (Nodes g) t es o.table fs
  pub clashes : (u v : ℕ) → o.clash ≡ Some (u, v) → Clashing g o.table u v
  pub closes : o.clash ≡ None → Closed g o.table
