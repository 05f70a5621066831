-- `solve_reach::find_cycle` meets its contract: no functor node below u lies below itself.
use Rattle.std.proofs.Common.{ℕ, ◌<◌}
use Rattle.graph.specs.State.{State}
use Rattle.graph.specs.Closure.{Below}
use Rattle.solve_classes.specs.Exact.{Exact}
use Rattle.solve_trace.specs.Nodes.{Nodes, IsFunctor}
use Rattle.solve_reach.proofs.find_cycle.Given as goal

abbrev pub invariant-loop-u : goal.invariant-loop-u
invariant-loop-u l = (s : State) → Nodes l.t s → Exact s l.table → (v : ℕ) → v < l.u → IsFunctor l.t v → Below s v v → ⊥
