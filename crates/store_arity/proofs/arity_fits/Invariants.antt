-- `store_arity::arity_fits` meets its contract: node by node.
use mathlib.Core.Path.{◌≡◌}
use Rattle.graph.specs.Book.{arity_fits}
use Rattle.store.specs.Views.{nodes_of}
use Rattle.store_arity.specs.Rule.{first_nodes}
use Rattle.store_arity.proofs.arity_fits.Given as goal

abbrev pub invariant-loop-u : goal.invariant-loop-u
invariant-loop-u l = l.ok ≡ arity_fits l.f l.k (nodes_of (first_nodes l.t l.u))
