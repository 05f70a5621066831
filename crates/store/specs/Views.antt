-- The arrays read as the lists of a state, and back.
--   terms, equations            a value of the struct by its fields: how a contract over lent arrays names one
--   lent_terms, lent_ends       the value that lent arrays make up; equations have no names then
--   unnamed                     equations by their ends alone
--   nodes_of, equations_of      the lists that the arrays hold
--   state_from                  both, as a state
--   pack_terms, pack_equations  the arrays that hold given lists, with zero in every unused place
--   fresh_terms, fresh_equations  no nodes, no equations
-- On well-shaped values (specs/Shape) the two directions are inverse: proofs/PackLaws.
use Rattle.std.specs.Prelude.{cond, List, ℕ, ◌+◌, ◌*◌, ◌/◌, ◌%◌, length, get_or, replicate, eqb}
use Rattle.std.proofs.Math.Option.{Option, none, some}
use Rattle.std.proofs.Math.ListN.{get_elem?}
use Rattle.graph.specs.Limits.{node_limit, child_limit, equation_limit}
use Rattle.graph.specs.State.{Node, variable, functor, Equation, equation_of, State, state_with}
use Rattle.base.specs.Tab.{tab}
use Rattle.store.specs.declared.Terms.{Terms}
use Rattle.store.specs.declared.Equations.{Equations}
use Rattle.store.specs.declared.LentTerms.{LentTerms}
use Rattle.store.specs.declared.LentEnds.{LentEnds}

abbrev pub terms : ℕ → List ℕ → List ℕ → List ℕ → List ℕ → Terms
terms n kind symbol arity child = record { count = n; kind = kind; symbol = symbol; arity = arity; child = child }

abbrev pub equations : ℕ → List ℕ → List ℕ → List ℕ → Equations
equations m name left right = record { count = m; name = name; left = left; right = right }

abbrev pub unnamed : ℕ → List ℕ → List ℕ → Equations
unnamed m left right = equations m (replicate equation_limit 0) left right

abbrev pub lent_terms : LentTerms → Terms
lent_terms l = terms l.count l.kind.now l.symbol.now l.arity.now l.child.now

abbrev pub lent_ends : LentEnds → Equations
lent_ends l = unnamed l.count l.left.now l.right.now

abbrev pub fresh_terms : Terms
fresh_terms = terms 0 (replicate node_limit 0) (replicate node_limit 0) (replicate node_limit 0) (replicate (child_limit * node_limit) 0)

abbrev pub fresh_equations : Equations
fresh_equations = equations 0 (replicate equation_limit 0) (replicate equation_limit 0) (replicate equation_limit 0)

-- ---- arrays to lists

abbrev pub kind_at : Terms → ℕ → ℕ
kind_at t u = get_or t.kind u 0

abbrev pub symbol_at : Terms → ℕ → ℕ
symbol_at t u = get_or t.symbol u 0

abbrev pub arity_at : Terms → ℕ → ℕ
arity_at t u = get_or t.arity u 0

-- the child of u at place j, counted from 0
abbrev pub child_at : Terms → ℕ → ℕ → ℕ
child_at t u j = get_or t.child (4 * u + j) 0

abbrev pub children_at : Terms → ℕ → List ℕ
children_at t u = tab (arity_at t u) (child_at t u)

-- kind 1 is a functor node, any other a variable
abbrev pub node_at : Terms → ℕ → Node
node_at t u = cond (eqb (kind_at t u) 1) (functor (symbol_at t u) (children_at t u)) variable

unfoldable pub nodes_of : Terms → List Node
nodes_of t = tab t.count (node_at t)

abbrev pub equation_at : Equations → ℕ → Equation
equation_at e k = equation_of (get_or e.name k 0) (get_or e.left k 0) (get_or e.right k 0)

unfoldable pub equations_of : Equations → List Equation
equations_of e = tab e.count (equation_at e)

abbrev pub state_from : Terms → Equations → State
state_from t e = state_with (nodes_of t) (equations_of e)

-- ---- lists to arrays

abbrev pub or_zero : {A : Type 0} → (A → ℕ) → Option A → ℕ
or_zero f none = 0
or_zero f (some a) = f a

-- an array of n places: f of the element at each place, 0 past the list's end
abbrev pub column : {A : Type 0} → ℕ → (A → ℕ) → List A → List ℕ
column n f l = tab n (λ i. or_zero f (get_elem? l i))

abbrev pub kind_of : Node → ℕ
kind_of variable = 0
kind_of (functor f cs) = 1

abbrev pub symbol_of : Node → ℕ
symbol_of variable = 0
symbol_of (functor f cs) = f

abbrev pub arity_of : Node → ℕ
arity_of variable = 0
arity_of (functor f cs) = length cs

abbrev pub child_of : ℕ → Node → ℕ
child_of j variable = 0
child_of j (functor f cs) = get_or cs j 0

unfoldable pub pack_terms : List Node → Terms
pack_terms ns =
    terms (length ns) (column node_limit kind_of ns) (column node_limit symbol_of ns) (column node_limit arity_of ns)
    (tab (child_limit * node_limit) (λ i. or_zero (child_of (i % 4)) (get_elem? ns (i / 4))))

unfoldable pub pack_equations : List Equation → Equations
pack_equations es =
    equations (length es) (column equation_limit (λ e. e.name) es) (column equation_limit (λ e. e.left) es) (column equation_limit (λ e. e.right) es)
