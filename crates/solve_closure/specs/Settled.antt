-- The closure of a state, settled: a clash, or a table whose classes are those of the closure.
--   Given         what settling asks of the arrays: formed nodes, and equations between them
--   ArraysHold    the arrays hold the state; `state_from` of store is one such, for well-shaped arrays
--   RoundsEnded   how rounds end, whatever the state: a table and a trace with room, and where there is a clash, its two nodes
--   Settled       the trace made the table; a clash, or the table is exact
--   OfferFits     what settling one offered equation more asks
--   Before        the table and trace are those of a state, before an equation is offered
use Rattle.std.specs.Prelude.{◌≡◌, List, ℕ, ◌≤◌, ◌<◌, length, get_or, Some, None}
use Rattle.graph.specs.Limits.{equation_limit}
use Rattle.graph.specs.State.{Equation, State, Held, Proper}
use Rattle.graph.specs.Closure.{Clash}
use Rattle.solve_classes.specs.Table.{class}
use Rattle.solve_classes.specs.Exact.{Exact, Sound}
use Rattle.store.specs.declared.Terms.{Terms}
use Rattle.store.specs.declared.Equations.{Equations}
use Rattle.solve_trace.specs.declared.Entry.{Entry}
use Rattle.solve_trace.specs.Nodes.{Nodes, EquationEnds, Formed}
use Rattle.solve_trace.specs.Trace.{Traced}
use Rattle.solve_trace.specs.Steps.{TraceFits}
use Rattle.solve_closure.specs.Rounds.{Clashing}
use Rattle.solve_closure.specs.declared.Settling.{Settling}

pub record Given (g : Terms) (e : Equations) : Type 0 where
  pub formed : Formed g
  pub most : e.count ≤ equation_limit
  pub lefts : (k : ℕ) → k < e.count → get_or e.left k 0 < g.count
  pub rights : (k : ℕ) → k < e.count → get_or e.right k 0 < g.count

pub record ArraysHold (g : Terms) (e : Equations) (s : State) : Type 0 where
  pub nodes : Nodes g s
  pub ends : EquationEnds e s
  pub count : length s.equations ≡ e.count

pub record RoundsEnded (g : Terms) (o : Settling) (es : List Entry) : Type 0 where
  pub ready : TraceFits o.table es
  pub meets : (u v : ℕ) → o.clash ≡ Some (u, v) → Clashing g o.table u v

pub record Settled (g : Terms) (s : State) (o : Settling) (es : List Entry) : Type 0 where
  pub ended : RoundsEnded g o es
  pub traced : Traced s es o.table
  pub proper : Proper s
  pub sound : Sound s o.table
  pub clashes : (u v : ℕ) → o.clash ≡ Some (u, v) → Clash s
  pub exact : o.clash ≡ None → Exact s o.table

pub record OfferFits (g : Terms) (m x y : ℕ) (t : List ℕ) (es : List Entry) : Type 0 where
  pub formed : Formed g
  pub ready : TraceFits t es
  pub most : m ≤ equation_limit
  pub left : x < g.count
  pub right : y < g.count

-- the table and trace are those of a state of m equations, and e has the ends x and y
pub record Before (g : Terms) (s : State) (e : Equation) (m x y : ℕ) (t : List ℕ) (es : List Entry) : Type 0 where
  pub nodes : Nodes g s
  pub proper : Proper s
  pub count : length s.equations ≡ m
  pub lefts : e.left ≡ x
  pub rights : e.right ≡ y
  pub traced : Traced s es t
  pub equated : (d : Equation) → Held s d → class t d.left ≡ class t d.right
