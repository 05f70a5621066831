-- The rule of one number of children for each symbol, for the nodes of one struct.
--   first_nodes  the struct with its first n nodes alone
--   ArityRule    of the first n nodes, functor nodes of one symbol have equally many children
--   FitsBefore   what a test says of node u and those before it: what `early` asks of a declaration
use Rattle.std.specs.Prelude.{◌≡◌, Bool, ℕ}
use Rattle.graph.specs.State.{OneArity}
use Rattle.graph.specs.Book.{node_fits}
use Rattle.store.specs.Views.{terms, node_at, nodes_of}
use Rattle.store.specs.declared.Terms.{Terms}

abbrev pub first_nodes : Terms → ℕ → Terms
first_nodes t n = terms n t.kind t.symbol t.arity t.child

abbrev pub ArityRule : Terms → ℕ → Type 0
ArityRule t n = OneArity (nodes_of (first_nodes t n))

abbrev pub FitsBefore : Terms → ℕ → Bool → Type 0
FitsBefore t u r = r ≡ node_fits (node_at t u) (nodes_of (first_nodes t u))
