-- The test of a symbol's number of children, one node at a time. It says the same of nodes with any other children: fits_any, rule_any.
use mathlib.Core.Path.{◌≡◌, refl, sym, ap, ◌∙◌}
use mathlib.Core.Bool.{Bool, true, false, not, ◌&&◌, ◌||◌, cond}
use mathlib.Core.List.{List, [], ◌∷◌, ◌++◌}
use mathlib.Core.Option.{some}
use Prim.Native.Nat.{ℕ, zero, suc, ◌+◌}
use native.Mathlib.Numerals.{add-one}
use lib.Dec.{eqb}
use lib.ListN.{length, get_elem?}
use Rattle.graph.specs.State.{variable, functor, OneArity}
use Rattle.graph.specs.Book.{arity_fits}
use Rattle.graph.proofs.ArityLaws.{fits_snoc}
use Rattle.base.proofs.TabLaws.{tab_none, tab_one_more}
use Rattle.store.specs.Views.{terms, kind_at, symbol_at, arity_at, children_at, node_at, nodes_of}
use Rattle.store.proofs.ViewLaws.{functor_found, functor_known, children_length}
use Rattle.store.specs.declared.Terms.{Terms}
use Rattle.store_arity.specs.Rule.{first_nodes}

module _ (t : Terms) where
  -- one node more among the first
  pub nodes_more : (u : ℕ) → nodes_of (first_nodes t (u + 1)) ≡ nodes_of (first_nodes t u) ++ (node_at t u ∷ [])
  unfolding nodes_of
  nodes_more u = tab_one_more u (node_at t)

  module _ (f k : ℕ) where
    pub fits_none : true ≡ arity_fits f k (nodes_of (first_nodes t 0))
    unfolding nodes_of
    fits_none = rw (tab_none (node_at t))

    -- the code's test of one node
    own : (a : Bool) (g : ℕ) (ds : List ℕ) → arity_fits f k (cond a (functor g ds) variable ∷ []) ≡ (not a || not (eqb g f)) || eqb (length ds) k
    own true g ds = go (eqb g f) (eqb (length ds) k)
      where
        go : (b c : Bool) → (not b || c) && true ≡ not b || c
        go true true = refl
        go true false = refl
        go false c = refl
    own false g ds = refl

    pub fits_more : (u : ℕ) {ok : Bool} → ok ≡ arity_fits f k (nodes_of (first_nodes t u))
        → ok && ((not (eqb (kind_at t u) 1) || not (eqb (symbol_at t u) f)) || eqb (arity_at t u) k) ≡ arity_fits f k (nodes_of (first_nodes t (u + 1)))
    fits_more u e =
        rw (e, ← children_length t u, ← own (eqb (kind_at t u) 1) (symbol_at t u) (children_at t u))
        (sym (ap (arity_fits f k) (nodes_more u) ∙ fits_snoc f k (nodes_of (first_nodes t u)) (node_at t u)))

-- ---- whichever children the nodes have

module _ (t : Terms) (child : List ℕ) where
  abbrev pub with_child : ℕ → Terms
  with_child n = terms n t.kind t.symbol t.arity child

  pub fits_any : (f k n : ℕ) → arity_fits f k (nodes_of (with_child n)) ≡ arity_fits f k (nodes_of (first_nodes t n))
  fits_any f k zero = sym (fits_none (with_child 0) f k) ∙ fits_none t f k
  fits_any f k (suc n) = rw (← add-one n) (sym (fits_more (with_child 0) f k n refl) ∙ fits_more t f k n (fits_any f k n))

  pub rule_any : OneArity (nodes_of t) → OneArity (nodes_of (with_child t.count))
  rule_any O u v f cs ds p q = so u cs p ∙ O u v f _ _ (moved u cs p) (moved v ds q) ∙ sym (so v ds q)
    where
      so : (x : ℕ) (es : List ℕ) → get_elem? (nodes_of (with_child t.count)) x ≡ some (functor f es) → length es ≡ length (children_at t x)
      so x es h =
          let k = functor_known (with_child t.count) x f es h in
          ap length (sym k.3) ∙ children_length (with_child t.count) x ∙ sym (children_length t x)

      moved : (x : ℕ) (es : List ℕ) → get_elem? (nodes_of (with_child t.count)) x ≡ some (functor f es) → get_elem? (nodes_of t) x ≡ some (functor f (children_at t x))
      moved x es h = let k = functor_known (with_child t.count) x f es h in rw (← k.2) (functor_found t x k.0 k.1)
