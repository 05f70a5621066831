-- Functor nodes of a state whose nodes are those of the arrays; well-shaped arrays are formed; alike nodes have equally many children.
use mathlib.Core.Path.{◌≡◌, sym, ◌∙◌}
use mathlib.Core.List.{List}
use Prim.Native.Nat.{ℕ, ◌≤◌, ◌<◌}
use native.Mathlib.Omega.{arith}
use lib.ListN.{length}
use Rattle.graph.specs.State.{functor, State, IsNode, NodeAt}
use Rattle.graph.proofs.ArityLaws.{equal_arities}
use Rattle.store.specs.Views.{symbol_at, arity_at, children_at, nodes_of}
use Rattle.store.specs.Shape.{TermsShape}
use Rattle.store.specs.declared.Terms.{Terms}
use Rattle.store.proofs.ViewLaws as view
use Rattle.solve_trace.specs.Nodes.{Nodes, IsFunctor, Formed, Alike}

module _ (g : Terms) (s : State) (N : Nodes g s) where
  pub functor_found : (u : ℕ) → IsFunctor g u → NodeAt s u (functor (symbol_at g u) (children_at g u))
  functor_found u F = rw N (view.functor_found g u F.known F.kind)

  pub functor_known : (u f : ℕ) (cs : List ℕ) → NodeAt s u (functor f cs)
      → IsFunctor g u × ((symbol_at g u ≡ f) × (children_at g u ≡ cs))
  functor_known u f cs h =
      let k = view.functor_known g u f cs (rw N at h) in
      (record { known = k.0; kind = k.1 }, (k.2, k.3))

  nodes_count : length s.nodes ≡ g.count
  nodes_count = rw N (view.nodes_length g)

  pub fits : Formed g → length s.nodes ≤ 64
  fits F = omega (arith, nodes_count, F.most)

  pub known : (u : ℕ) → u < g.count → IsNode s u
  known u h = omega (arith, nodes_count)

pub formed : (g : Terms) → TermsShape g → Formed g
formed g S =
    record {
      most = S.few;
      arities = λ u h. S.arities u (omega (arith, S.few));
      earlier = λ u j h. S.earlier u j (omega (arith, S.few));
      one_arity = S.one_arity;
    }

pub alike_arities : (g : Terms) → Formed g → (u v : ℕ) → IsFunctor g u → IsFunctor g v → Alike g u v → arity_at g u ≡ arity_at g v
alike_arities g F u v Fu Fv A =
    sym (view.children_length g u)
    ∙ equal_arities (nodes_of g) F.one_arity u v _ _ _ _ (view.functor_found g u Fu.known Fu.kind) (view.functor_found g v Fv.known Fv.kind) A
    ∙ view.children_length g v
