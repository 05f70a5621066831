-- A workspace and the state that it holds, each from the other; the fresh workspace.
use mathlib.Core.Path.{◌≡◌, refl, sym, ap, ap₂, ◌∙◌, subst}
use mathlib.Core.List.{List}
use mathlib.Core.Option.{some}
use Prim.Native.Nat.{ℕ, ◌≤◌, ◌<◌}
use native.Mathlib.Nat.{not-suc-le-zero}
use native.Mathlib.Omega.{arith}
use lib.ListN.{length, get_or, get_elem?, replicate, length-replicate}
use Rattle.std.proofs.lemmas.Grind.{common_steps}
use Rattle.graph.specs.State.{Node, functor, Equation, State, state_with, empty_state}
use Rattle.graph.specs.Solution.{Solution}
use Rattle.base.specs.Tab.{tab}
use Rattle.base.proofs.ListLaws.{found_lt}
use Rattle.base.proofs.TabLaws.{tab_get_d}
use Rattle.graph.proofs.ArityLaws.{one_arity_empty}
use Rattle.graph.proofs.SolutionKeptLaws.{solution_empty}
use Rattle.store.specs.Views.{terms, equations, nodes_of, equations_of, or_zero, column, arity_of, pack_terms, pack_equations}
use Rattle.store.specs.Shape.{TermsShape, EquationsShape, Shape}
use Rattle.store.proofs.PackLaws.{pack_terms_lem, pack_equations_lem, nodes_packed, equations_packed}
use Rattle.unifier.specs.Views.{workspace_of, state_of, packed, fresh_workspace, Valid}
use Rattle.unifier.specs.declared.Workspace.{Workspace}

pub repacked : (w : Workspace) → Shape w.terms w.equations → w ≡ packed (state_of w)
repacked w s = ap₂ workspace_of (sym (pack_terms_lem w.terms s.terms)) (sym (pack_equations_lem w.terms.count w.equations s.equations))

-- the limits that the shape of packed arrays tells of the lists
nodes_fit : (ns : List Node) → TermsShape (pack_terms ns) → length ns ≤ 64
unfolding pack_terms
nodes_fit ns t = t.few

equations_fit : (n : ℕ) (es : List Equation) → EquationsShape n (pack_equations es) → length es ≤ 256
unfolding pack_equations
equations_fit n es e = e.few

few_children : (ns : List Node) → TermsShape (pack_terms ns) → (u f : ℕ) (cs : List ℕ) → get_elem? ns u ≡ some (functor f cs) → length cs ≤ 4
unfolding pack_terms
few_children ns t u f cs h =
    let l : u < 64 = omega (arith, found_lt ns u (functor f cs) h, t.few) in
    let a : get_or (column 64 arity_of ns) u 0 ≡ length cs = tab_get_d 64 (λ i. or_zero arity_of (get_elem? ns i)) u 0 l ∙ ap (or_zero arity_of) h in
    omega (arith, t.arities u l)

pub unpacked : (s : State) → Valid (packed s) → state_of (packed s) ≡ s
unpacked s v =
    let t = v.shape.terms in
    ap₂ state_with (nodes_packed s.nodes (nodes_fit s.nodes t) (few_children s.nodes t))
    (equations_packed s.equations (equations_fit _ s.equations v.shape.equations))

pub packed_lists : (s : State) (w : Workspace) → w ≡ packed s → Valid w → state_of w ≡ s
packed_lists s w p v = ap state_of p ∙ unpacked s (subst Valid p v)

-- ---- the fresh workspace

pub fresh_state : state_of fresh_workspace ≡ empty_state
unfolding nodes_of equations_of tab
fresh_state = refl

pub fresh_packed : fresh_workspace ≡ packed empty_state
unfolding pack_terms pack_equations tab
fresh_packed = refl

-- arrays of zeros have the shape
module _ (z : ℕ → List ℕ) (size : (n : ℕ) → length (z n) ≡ n) (all : (n i : ℕ) → get_or (z n) i 0 ≡ 0) where
  zero_terms : TermsShape (terms 0 (z 64) (z 64) (z 64) (z 256))
  unfolding nodes_of tab
  zero_terms = record {
    kind_size = size 64;
    symbol_size = size 64;
    arity_size = size 64;
    child_size = size 256;
    few = omega arith;
    kinds = λ u h. omega (arith, all 64 u);
    arities = λ u h. omega (arith, all 64 u);
    earlier = λ u j h k. absurd (not-suc-le-zero (rw (all 64 u) at k));
    unused_children = λ u j h k l. all 256 _;
    variables = λ u h k. (all 64 u, all 64 u);
    unused_nodes = λ u h k. all 64 u;
    one_arity = one_arity_empty;
  }

  zero_equations : EquationsShape 0 (equations 0 (z 256) (z 256) (z 256))
  zero_equations = record {
    name_size = size 256;
    left_size = size 256;
    right_size = size 256;
    few = omega arith;
    lefts = λ k h. absurd (not-suc-le-zero h);
    rights = λ k h. absurd (not-suc-le-zero h);
    distinct = λ i j h k. absurd (not-suc-le-zero k);
    unused_names = λ k h l. all 256 k;
    unused_lefts = λ k h l. all 256 k;
    unused_rights = λ k h l. all 256 k;
  }

abbrev zeros : ℕ → List ℕ
zeros n = replicate n 0

zeros_at : (n i : ℕ) → ◌≡◌ {A = ℕ} (get_or (zeros n) i 0) 0
zeros_at n i = grind (arith, common_steps)

zeros_size : (n : ℕ) → length (zeros n) ≡ n
zeros_size n = length-replicate n 0

pub fresh_valid : Valid fresh_workspace
fresh_valid = record {
  shape = record { terms = zero_terms zeros zeros_size zeros_at; equations = zero_equations zeros zeros_size zeros_at };
  solution = subst Solution (sym fresh_state) solution_empty;
}
