-- The class reply, from the class table and the kinds.
use mathlib.Core.Path.{◌≡◌}
use mathlib.Core.Bool.{true}
use mathlib.Core.List.{List}
use Prim.Native.Nat.{ℕ, ◌<◌}
use borrow.Author.Tests.{eq-eqb, eqb-true}
use Rattle.graph.specs.State.{IsNode, FunctorAt}
use Rattle.solve_classes.specs.Table.{class}
use Rattle.solve_classes.specs.Members.{in_class, functor_kind, size_of, class_number}
use Rattle.solve_classes.proofs.MemberLaws.{class_of}
use Rattle.store.specs.Views.{symbol_at, children_at}
use Rattle.store.proofs.ViewLaws.{nodes_length, functor_found, functor_known}
use Rattle.unifier.specs.Views.{state_of}
use Rattle.std.specs.Prelude.{Ok}
use Rattle.solve_classes.specs.declared.Figures.{Figures}
use Rattle.unifier.specs.Replies.{outcome}
use Rattle.unifier.specs.Class.{Classifies}
use Rattle.unifier.specs.Inner.{Classed}
use Rattle.unifier.specs.declared.Workspace.{Workspace}
use Rattle.unifier.proofs.AskLaws.{class_told}

-- ---- the kinds say which nodes are functor nodes

functor_only : (w : Workspace) (v : ℕ) → IsNode (state_of w) v → functor_kind w.terms.kind v ≡ true → FunctorAt (state_of w) v
functor_only w v n e = (symbol_at w.terms v, children_at w.terms v, functor_found w.terms v (rw (nodes_length w.terms) at n) (eqb-true _ _ e))

functor_all : (w : Workspace) (v : ℕ) → FunctorAt (state_of w) v → functor_kind w.terms.kind v ≡ true
functor_all w v F = eq-eqb _ _ (functor_known w.terms v F.0 F.1 F.2).1

module _ (w : Workspace) (t : List ℕ) (u : ℕ) (c : Classed w t) (h : u < w.terms.count) where
  pub told : (k : Figures) → (k.number ≡ class_number (in_class t (class t u)) (functor_kind w.terms.kind)) × (k.size ≡ size_of (in_class t (class t u)) 64)
      → Classifies w u (outcome (Ok k) w)
  told k r =
      class_told w u c.valid h k
      (rw (r.0, r.1)
      (class_of (state_of w) t u c.table c.exact
      (rw (nodes_length w.terms) c.valid.shape.terms.few)
      (rw (nodes_length w.terms) c.alone)
      (rw (nodes_length w.terms) h)
      w.terms.kind (functor_only w) (functor_all w)))
