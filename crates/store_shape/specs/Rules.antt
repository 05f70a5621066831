-- The rules that the shape test goes through one by one.
--   EachBelow, ZeroFrom, Distinct   an array's first n below a bound; zero from place k on; the first n all different
--   Head, ChildRule, NodeRule       the rules of one node: of its kind, symbol and number of children; of one child place; both
--   EndRules    the rules of equations, but that names are all different
use Rattle.std.specs.Prelude.{◌≡◌, List, ℕ, ◌≤◌, ◌<◌, length, get_or}
use Rattle.graph.specs.Limits.{child_limit}
use Rattle.store.specs.Views.{kind_at, symbol_at, arity_at, child_at}
use Rattle.store.specs.declared.Terms.{Terms}
use Rattle.store.specs.declared.Equations.{Equations}
use Rattle.base.specs.Tells.{Each}

abbrev pub EachBelow : List ℕ → ℕ → ℕ → Type 0
EachBelow l m n = Each (λ i. get_or l i 0 < m) n

abbrev pub ZeroFrom : List ℕ → ℕ → Type 0
ZeroFrom l k = Each (λ i. k ≤ i → get_or l i 0 ≡ 0) (length l)

abbrev pub Distinct : List ℕ → ℕ → Type 0
Distinct l n = (i j : ℕ) → i < j → j < n → get_or l i 0 ≡ get_or l j 0 → ⊥

-- a node of kind k with symbol f and a children
pub record Head (k f a : ℕ) : Type 0 where
  pub kind : k ≤ 1
  pub arity : a ≤ child_limit
  pub symbol_zero : k ≡ 0 → f ≡ 0
  pub arity_zero : k ≡ 0 → a ≡ 0

-- the child c at place j of node u, which has a children
pub record ChildRule (a u c j : ℕ) : Type 0 where
  pub earlier : j < a → c < u
  pub unused : a ≤ j → c ≡ 0

pub record NodeRule (t : Terms) (u : ℕ) : Type 0 where
  pub head : Head (kind_at t u) (symbol_at t u) (arity_at t u)
  pub places : Each (λ j. ChildRule (arity_at t u) u (child_at t u j) j) child_limit

-- the rules of equations beside n nodes, but for their names: the ends of each are known, unused places are zero
pub record EndRules (n : ℕ) (e : Equations) : Type 0 where
  pub lefts : EachBelow e.left n e.count
  pub rights : EachBelow e.right n e.count
  pub unused_names : ZeroFrom e.name e.count
  pub unused_lefts : ZeroFrom e.left e.count
  pub unused_rights : ZeroFrom e.right e.count
