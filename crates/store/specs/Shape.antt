-- Which arrays a workspace may hold, its solution aside.
--   TermsShape      counts in range, kinds 0 or 1, at most child_limit children, each an earlier node, zero in every unused place,
--                   a variable's symbol, number of children and children among them; functor nodes of one symbol have equally many children
--   EquationsShape  count in range, known ends, names all different, zero in every unused place
--   Shape           both
use Rattle.std.specs.Prelude.{◌≡◌, ℕ, ◌*◌, ◌≤◌, ◌<◌, length, get_or}
use Rattle.graph.specs.Limits.{node_limit, child_limit, equation_limit}
use Rattle.graph.specs.State.{OneArity}
use Rattle.store.specs.Views.{kind_at, symbol_at, arity_at, child_at, nodes_of}
use Rattle.store.specs.declared.Terms.{Terms}
use Rattle.store.specs.declared.Equations.{Equations}

pub record TermsShape (t : Terms) : Type 0 where
  pub kind_size : length t.kind ≡ node_limit
  pub symbol_size : length t.symbol ≡ node_limit
  pub arity_size : length t.arity ≡ node_limit
  pub child_size : length t.child ≡ child_limit * node_limit
  pub few : t.count ≤ node_limit
  pub kinds : (u : ℕ) → u < node_limit → kind_at t u ≤ 1
  pub arities : (u : ℕ) → u < node_limit → arity_at t u ≤ child_limit
  pub earlier : (u j : ℕ) → u < node_limit → j < arity_at t u → child_at t u j < u
  pub unused_children : (u j : ℕ) → u < node_limit → arity_at t u ≤ j → j < child_limit → child_at t u j ≡ 0
  pub variables : (u : ℕ) → u < node_limit → kind_at t u ≡ 0 → (symbol_at t u ≡ 0) × (arity_at t u ≡ 0)
  pub unused_nodes : (u : ℕ) → t.count ≤ u → u < node_limit → kind_at t u ≡ 0
  pub one_arity : OneArity (nodes_of t)

-- n is the number of nodes
pub record EquationsShape (n : ℕ) (e : Equations) : Type 0 where
  pub name_size : length e.name ≡ equation_limit
  pub left_size : length e.left ≡ equation_limit
  pub right_size : length e.right ≡ equation_limit
  pub few : e.count ≤ equation_limit
  pub lefts : (k : ℕ) → k < e.count → get_or e.left k 0 < n
  pub rights : (k : ℕ) → k < e.count → get_or e.right k 0 < n
  pub distinct : (i j : ℕ) → i < j → j < e.count → get_or e.name i 0 ≡ get_or e.name j 0 → ⊥
  pub unused_names : (k : ℕ) → e.count ≤ k → k < equation_limit → get_or e.name k 0 ≡ 0
  pub unused_lefts : (k : ℕ) → e.count ≤ k → k < equation_limit → get_or e.left k 0 ≡ 0
  pub unused_rights : (k : ℕ) → e.count ≤ k → k < equation_limit → get_or e.right k 0 ≡ 0

pub record Shape (t : Terms) (e : Equations) : Type 0 where
  pub terms : TermsShape t
  pub equations : EquationsShape t.count e
