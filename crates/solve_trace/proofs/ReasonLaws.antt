-- The reasons that nodes and equations give.
use Rattle.std.proofs.Common.{◌≡◌, List, ℕ, ◌<◌, arith, get_or}
use Rattle.graph.specs.State.{State}
use Rattle.solve_classes.specs.Table.{class}
use Rattle.store.specs.Views.{arity_at, child_at}
use Rattle.store.specs.declared.Terms.{Terms}
use Rattle.store.specs.declared.Equations.{Equations}
use Rattle.store.proofs.ViewLaws.{child_found}
use Rattle.solve_trace.specs.Nodes.{Nodes, IsFunctor, Formed, Alike, EquationEnds}
use Rattle.solve_trace.specs.declared.Entry.TheVariants.{Equation, Children}
use Rattle.solve_trace.specs.Trace.{Reason, equation, down}
use Rattle.solve_trace.proofs.NodeLaws.{functor_found, alike_arities}

pub by_equation_lem : (e : Equations) (t : List ℕ) (s : State) (k : ℕ) → k < e.count → EquationEnds e s
    → Reason s t (Equation k) (get_or e.left k 0) (get_or e.right k 0)
by_equation_lem e t s k h E = rw (← E.lefts k h, ← E.rights k h) (equation k (E.found k h))

pub by_place : (g : Terms) (t : List ℕ) (s : State) (u v j : ℕ) → Nodes g s → Formed g → IsFunctor g u → IsFunctor g v → Alike g u v → class t u ≡ class t v
    → j < arity_at g u → Reason s t (Children u v j) (child_at g u j) (child_at g v j)
by_place g t s u v j N F Fu Fv A e h =
    down u v j e (functor_found g s N u Fu) (functor_found g s N v Fv) A
    (child_found g u j h) (child_found g v j (omega (arith, alike_arities g F u v Fu Fv A)))
