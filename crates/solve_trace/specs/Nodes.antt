-- What the solver asks of nodes and equations. `TermsShape` of store gives `Formed`.
--   IsFunctor      node u is known, and a functor node
--   Formed         nodes and children within the limits, each child an earlier node, as many for each node of a symbol
--   Alike          equal labels, read off the arrays
--   EquationEnds   the equations of a state have the ends that the arrays have
use Rattle.std.specs.Prelude.{◌≡◌, ℕ, ◌≤◌, ◌<◌, get_or}
use Rattle.std.proofs.Math.Option.{some}
use Rattle.std.proofs.Math.ListN.{get_elem?}
use Rattle.graph.specs.Limits.{node_limit, child_limit}
use Rattle.graph.specs.State.{Equation, State, EqualLabels, OneArity}
use Rattle.store.specs.Views.{kind_at, symbol_at, arity_at, child_at, nodes_of}
use Rattle.store.specs.declared.Terms.{Terms}
use Rattle.store.specs.declared.Equations.{Equations}

-- the state's nodes are those of the arrays
abbrev pub Nodes : Terms → State → Type 0
Nodes g s = s.nodes ≡ nodes_of g

pub record IsFunctor (g : Terms) (u : ℕ) : Type 0 where
  pub known : u < g.count
  pub kind : kind_at g u ≡ 1

pub record Formed (g : Terms) : Type 0 where
  pub most : g.count ≤ node_limit
  pub arities : (u : ℕ) → u < g.count → arity_at g u ≤ child_limit
  pub earlier : (u j : ℕ) → u < g.count → j < arity_at g u → child_at g u j < u
  pub one_arity : OneArity (nodes_of g)

abbrev pub Alike : Terms → ℕ → ℕ → Type 0
Alike g u v = EqualLabels (symbol_at g u) (symbol_at g v)

-- the state's equations have, at their first places, the ends that the arrays have there
pub record EquationEnds (e : Equations) (s : State) : Type 0 where
  pub at : ℕ → Equation
  pub found : (k : ℕ) → k < e.count → get_elem? s.equations k ≡ some (at k)
  pub lefts : (k : ℕ) → k < e.count → (at k).left ≡ get_or e.left k 0
  pub rights : (k : ℕ) → k < e.count → (at k).right ≡ get_or e.right k 0
