-- Nodes read off their arrays: what a lookup finds, how labels compare, and rules 3 and 6.
use mathlib.Core.Path.{◌≡◌, refl, sym, ap, ap₂, ◌∙◌}
use mathlib.Core.Bool.{Bool, true, false}
use mathlib.Core.Option.{Option, none, some}
use Prim.Native.Nat.{ℕ, ◌≤◌, ◌<◌}
use lib.Dec.{eqb, ltb}
use borrow.Author.Tests.{eqb-true, eqb-false, ltb-true, ltb-false}
use Rattle.base.proofs.TabLaws.{tab_past}
use Rattle.std.specs.Prelude.{Option as Answer, Some}
use Rattle.graph.specs.Lines.{same, below, try, need, place_at, Functor, functor_at, equal_labels, by_child, by_reflexivity, down_to, down_of}
use Rattle.proof_rules.specs.Rules.{labels_compared}
use Rattle.store.specs.Views.{kind_at, symbol_at, children_at, node_at, nodes_of}
use Rattle.store.specs.declared.Terms.{Terms}
use Rattle.store.proofs.ViewLaws.{nodes_length, functor_found, variable_found}

-- ---- functor nodes

unlike : {A : Type 0} (b : Bool) (o : Option A) → (Some true ≡ Some b → ⊥) → none ≡ need b o
unlike true o e = absurd (e refl)
unlike false o e = refl

abbrev pub functor_row : Terms → ℕ → Functor
functor_row t u = record { symbol = symbol_at t u; children = children_at t u }

module _ (t : Terms) where
  pub functor_past : (u : ℕ) → t.count ≤ u → functor_at (nodes_of t) u ≡ none
  unfolding nodes_of
  functor_past u h = rw (tab_past t.count (node_at t) u h)

  pub functor_not : (u : ℕ) → u < t.count → (kind_at t u ≡ 1 → ⊥) → functor_at (nodes_of t) u ≡ none
  functor_not u h e = rw (variable_found t u h e)

  pub functor_is : (u : ℕ) → u < t.count → kind_at t u ≡ 1 → functor_at (nodes_of t) u ≡ some (functor_row t u)
  functor_is u h e = rw (functor_found t u h e)

  -- a node that is found is known
  pub functor_known : (u : ℕ) (k : Functor) → some k ≡ functor_at (nodes_of t) u → u < t.count
  functor_known u k e = go (ltb u t.count) refl
    where
      go : (b : Bool) → ltb u t.count ≡ b → u < t.count
      go true q = ltb-true u t.count q
      go false q = let n = functor_past u (ltb-false u t.count q) in cc

  -- and a functor node
  pub functor_row_lem : (u : ℕ) (k : Functor) → functor_at (nodes_of t) u ≡ some k → (u < t.count) × (functor_row t u ≡ k)
  functor_row_lem u k q = go (functor_known u k (sym q)) (eqb (kind_at t u) 1) refl
    where
      go : u < t.count → (b : Bool) → eqb (kind_at t u) 1 ≡ b → (u < t.count) × (functor_row t u ≡ k)
      go h true y = let f : some (functor_row t u) ≡ some k = sym (functor_is u h (eqb-true _ _ y)) ∙ q in (h, cc)
      go h false y = let f : none ≡ some k = sym (functor_not u h (eqb-false _ _ y)) ∙ q in cc

  -- ---- labels

  module _ (u v : ℕ) where
    abbrev pub Compares : Answer Bool → Type 0
    Compares r = r ≡ labels_compared (functor_at (nodes_of t) u) (functor_at (nodes_of t) v)

    -- nodes with equal labels
    pub record Alike : Type 0 where
      pub left : u < t.count
      pub right : v < t.count
      pub left_row : functor_at (nodes_of t) u ≡ some (functor_row t u)
      pub right_row : functor_at (nodes_of t) v ≡ some (functor_row t v)
      pub equal : equal_labels (functor_row t u) (functor_row t v) ≡ true

    labelled : Compares (Some true) → Alike
    labelled = go (functor_at (nodes_of t) u) (functor_at (nodes_of t) v) refl refl
      where
        go : (o p : Option Functor) → functor_at (nodes_of t) u ≡ o → functor_at (nodes_of t) v ≡ p → Some true ≡ labels_compared o p → Alike
        go none p x y e = cc
        go (some k) none x y e = cc
        go (some k) (some m) x y e =
            let a = functor_row_lem u k x in
            let b = functor_row_lem v m y in
            let q : equal_labels k m ≡ true = cc in
            record {
              left = a.0;
              right = b.0;
              left_row = x ∙ ap some (sym a.1);
              right_row = y ∙ ap some (sym b.1);
              equal = ap₂ equal_labels a.1 b.1 ∙ q;
            }

    pub alike : (r : Answer Bool) → Compares r → r ≡ Some true → Alike
    alike r d q = labelled (sym q ∙ d)

  -- ---- rule 6, from a claim of kind same

  module _ (p u v : ℕ) where
    pub down_refused : (r : Answer Bool) → Compares u v r → (r ≡ Some true → ⊥) → none ≡ down_of (nodes_of t) p (same u v)
    down_refused r d n = go (functor_at (nodes_of t) u) (functor_at (nodes_of t) v) (λ e. n (d ∙ sym e))
      where
        go : (o q : Option Functor) → (Some true ≡ labels_compared o q → ⊥) → none ≡ try o (λ k. try q (down_to p k))
        go none q e = refl
        go (some k) none e = refl
        go (some k) (some m) e = unlike (equal_labels k m) _ e

    -- the places, found as o and q
    pub down_at : Alike u v → (o q : Option ℕ) → o ≡ place_at (children_at t u) p → q ≡ place_at (children_at t v) p
        → try o (λ x. try q (λ y. some (same x y))) ≡ down_of (nodes_of t) p (same u v)
    down_at w o q d h = sym (rw (w.left_row, w.right_row, w.equal, ← d, ← h))

  -- rule 2, by a functor node's child at a place
  pub child_at_lem : (u p : ℕ) → u < t.count → kind_at t u ≡ 1 → (o : Option ℕ) → o ≡ place_at (children_at t u) p
      → try o (λ v. some (below u v)) ≡ by_child (nodes_of t) u p
  child_at_lem u p h e o d = sym (rw (functor_is u h e, ← d))

  pub reflexivity_by : (u : ℕ) → need (ltb u t.count) (some (same u u)) ≡ by_reflexivity (nodes_of t) u
  reflexivity_by u = rw (nodes_length t)
