-- On well-shaped values, and on lists within the limits, the two views are inverse.
use mathlib.Core.Path.{◌≡◌, refl, sym, ap, ap₂, ◌∙◌}
use mathlib.Core.Bool.{Bool, true, false, cond}
use mathlib.Core.Logic.{⊎_elim}
use mathlib.Core.List.{List}
use mathlib.Core.Option.{some}
use Prim.Native.Nat.{ℕ, ◌+◌, ◌*◌, ◌/◌, ◌%◌, ◌≤◌, ◌<◌}
use native.Mathlib.Nat.{eq-or-lt_of_le, mod-lt, mod-eq_of_lt, div-eq_of_lt, div-add-mod, mul-add-mod_self_left, mul-add-div}
use native.Mathlib.Omega.{arith}
use lib.Dec.{eqb}
use lib.ListN.{length, get_or, get_elem?, get_or-eq_default}
use borrow.Author.Tests.{eqb-true, eqb-false}
use Rattle.graph.specs.Limits.{node_limit, child_limit, equation_limit}
use Rattle.graph.specs.State.{Node, variable, functor, Equation}
use Rattle.base.specs.Tab.{tab}
use Rattle.base.proofs.ListLaws.{found_lt}
use Rattle.base.proofs.TabLaws.{tab_length, tab_at, tab_past, tab_get_d, tab_same, tab_found, tab_list, array_tab}
use Rattle.store.specs.Views.{kind_at, symbol_at, arity_at, child_at, children_at, node_at, nodes_of, equation_at, equations_of, or_zero, column, kind_of, symbol_of, arity_of, child_of, pack_terms, pack_equations}
use Rattle.store.specs.Shape.{TermsShape, EquationsShape}
use Rattle.store.specs.declared.Terms.{Terms}
use Rattle.store.specs.declared.Equations.{Equations}
use Rattle.std.proofs.lemmas.Bool.{cases_lt}

-- ---- columns

-- the column of a table, where the array has f's values below m and zeros after
column_of : {A : Type 0} (n m : ℕ) (f : A → ℕ) (g : ℕ → A) (l : List ℕ) → length l ≡ n
    → ((i : ℕ) → i < m → i < n → f (g i) ≡ get_or l i 0) → ((i : ℕ) → m ≤ i → i < n → get_or l i 0 ≡ 0) → column n f (tab m g) ≡ l
column_of n m f g l z used unused =
    tab_same n (λ i. or_zero f (get_elem? (tab m g) i)) (λ i. get_or l i 0)
    (λ i h. ⊎_elim (λ p. ap (or_zero f) (tab_at m g i p) ∙ used i p h) (λ p. ap (or_zero f) (tab_past m g i p) ∙ sym (unused i p h)) (cases_lt i m))
    ∙ array_tab n l z

-- what a column holds at the place of an element
column_at : {A : Type 0} (n : ℕ) (f : A → ℕ) (l : List A) (i : ℕ) (a : A) → i < n → get_elem? l i ≡ some a → get_or (column n f l) i 0 ≡ f a
column_at n f l i a h e = tab_get_d n (λ j. or_zero f (get_elem? l j)) i 0 h ∙ ap (or_zero f) e

-- ---- equations

pub pack_equations_lem : (n : ℕ) (e : Equations) → EquationsShape n e → pack_equations (equations_of e) ≡ e
unfolding equations_of pack_equations
pack_equations_lem n e s =
    rw (
      tab_length e.count (equation_at e),
      column_of equation_limit e.count (λ d. d.name) (equation_at e) e.name s.name_size (λ i h g. refl) s.unused_names,
      column_of equation_limit e.count (λ d. d.left) (equation_at e) e.left s.left_size (λ i h g. refl) s.unused_lefts,
      column_of equation_limit e.count (λ d. d.right) (equation_at e) e.right s.right_size (λ i h g. refl) s.unused_rights,
    )

pub equations_packed : (es : List Equation) → length es ≤ equation_limit → equations_of (pack_equations es) ≡ es
unfolding equations_of pack_equations
equations_packed es h =
    tab_found es (equation_at (pack_equations es))
    (λ i d e.
    let l : i < equation_limit = omega (arith, found_lt es i d e) in
    rw (column_at equation_limit (λ x. x.name) es i d l e, column_at equation_limit (λ x. x.left) es i d l e, column_at equation_limit (λ x. x.right) es i d l e))

-- ---- nodes

module _ (t : Terms) (S : TermsShape t) (u : ℕ) (h : u < node_limit) where
  kind_zero : eqb (kind_at t u) 1 ≡ false → kind_at t u ≡ 0
  kind_zero e = ⊎_elim (λ q. absurd (eqb-false (kind_at t u) 1 e q)) (λ l. omega arith) (eq-or-lt_of_le (S.kinds u h))

  -- a child place of a node of kind 0
  child_zero : (j : ℕ) → j < 4 → kind_at t u ≡ 0 → child_at t u j ≡ 0
  child_zero j w k = S.unused_children u j h (omega (arith, (S.variables u h k).1)) w

  kind_of_lem : kind_of (node_at t u) ≡ kind_at t u
  kind_of_lem = go (eqb (kind_at t u) 1) refl
    where
      go : (b : Bool) → eqb (kind_at t u) 1 ≡ b → kind_of (cond b (functor (symbol_at t u) (children_at t u)) variable) ≡ kind_at t u
      go true e = sym (eqb-true (kind_at t u) 1 e)
      go false e = sym (kind_zero e)

  symbol_of_lem : symbol_of (node_at t u) ≡ symbol_at t u
  symbol_of_lem = go (eqb (kind_at t u) 1) refl
    where
      go : (b : Bool) → eqb (kind_at t u) 1 ≡ b → symbol_of (cond b (functor (symbol_at t u) (children_at t u)) variable) ≡ symbol_at t u
      go true e = refl
      go false e = sym (S.variables u h (kind_zero e)).0

  arity_of_lem : arity_of (node_at t u) ≡ arity_at t u
  arity_of_lem = go (eqb (kind_at t u) 1) refl
    where
      go : (b : Bool) → eqb (kind_at t u) 1 ≡ b → arity_of (cond b (functor (symbol_at t u) (children_at t u)) variable) ≡ arity_at t u
      go true e = tab_length (arity_at t u) (child_at t u)
      go false e = sym (S.variables u h (kind_zero e)).1

  child_of_lem : (j : ℕ) → j < 4 → child_of j (node_at t u) ≡ child_at t u j
  child_of_lem j w = go (eqb (kind_at t u) 1) refl
    where
      past : arity_at t u ≤ j → get_or (children_at t u) j 0 ≡ child_at t u j
      past l =
          get_or-eq_default (children_at t u) 0 {n = j} (omega (arith, tab_length (arity_at t u) (child_at t u)))
          ∙ sym (S.unused_children u j h l w)

      go : (b : Bool) → eqb (kind_at t u) 1 ≡ b → child_of j (cond b (functor (symbol_at t u) (children_at t u)) variable) ≡ child_at t u j
      go true e = ⊎_elim (λ l. tab_get_d (arity_at t u) (child_at t u) j 0 l) (λ l. past l) (cases_lt j (arity_at t u))
      go false e = sym (child_zero j w (kind_zero e))

pub pack_terms_lem : (t : Terms) → TermsShape t → pack_terms (nodes_of t) ≡ t
unfolding nodes_of pack_terms
pack_terms_lem t S =
    rw (
      tab_length t.count (node_at t),
      column_of node_limit t.count kind_of (node_at t) t.kind S.kind_size (λ i h g. kind_of_lem t S i g) S.unused_nodes,
      column_of node_limit t.count symbol_of (node_at t) t.symbol S.symbol_size (λ i h g. symbol_of_lem t S i g) (λ i h g. (S.variables i g (S.unused_nodes i h g)).0),
      column_of node_limit t.count arity_of (node_at t) t.arity S.arity_size (λ i h g. arity_of_lem t S i g) (λ i h g. (S.variables i g (S.unused_nodes i h g)).1),
      children,
    )
  where
    child : (i : ℕ) → i < child_limit * node_limit → or_zero (child_of (i % 4)) (get_elem? (tab t.count (node_at t)) (i / 4)) ≡ get_or t.child i 0
    child i h =
        let e : 4 * (i / 4) + i % 4 ≡ i = div-add-mod i 4 in
        let m : i % 4 < 4 = mod-lt i (omega arith) in
        let u : i / 4 < node_limit = omega arith in
        ⊎_elim
        (λ l. ap (or_zero (child_of (i % 4))) (tab_at t.count (node_at t) (i / 4) l) ∙ child_of_lem t S (i / 4) u (i % 4) m)
        (λ l. ap (or_zero (child_of (i % 4))) (tab_past t.count (node_at t) (i / 4) l) ∙ sym (child_zero t S (i / 4) u (i % 4) m (S.unused_nodes (i / 4) l u)))
        (cases_lt (i / 4) t.count)
        ∙ ap (λ (x : ℕ). get_or t.child x 0) e

    children : tab (child_limit * node_limit) (λ i. or_zero (child_of (i % 4)) (get_elem? (tab t.count (node_at t)) (i / 4))) ≡ t.child
    children =
        tab_same (child_limit * node_limit) (λ i. or_zero (child_of (i % 4)) (get_elem? (tab t.count (node_at t)) (i / 4))) (λ i. get_or t.child i 0) child
        ∙ array_tab (child_limit * node_limit) t.child S.child_size

module _ (ns : List Node) (few : length ns ≤ node_limit) where
  packed_child : (u j : ℕ) (n : Node) → get_elem? ns u ≡ some n → j < 4 → child_at (pack_terms ns) u j ≡ child_of j n
  unfolding pack_terms
  packed_child u j n e h =
      let q : (4 * u + j) / 4 ≡ u = mul-add-div (omega arith) u j ∙ ap (λ (x : ℕ). u + x) (div-eq_of_lt h) ∙ omega arith in
      let r : (4 * u + j) % 4 ≡ j = mul-add-mod_self_left 4 u j ∙ mod-eq_of_lt h in
      tab_get_d (child_limit * node_limit) (λ i. or_zero (child_of (i % 4)) (get_elem? ns (i / 4))) (4 * u + j) 0 (omega (arith, found_lt ns u n e))
      ∙ ap₂ (λ (x y : ℕ). or_zero (child_of x) (get_elem? ns y)) r q
      ∙ ap (or_zero (child_of j)) e

  packed_node : ((u f : ℕ) (cs : List ℕ) → get_elem? ns u ≡ some (functor f cs) → length cs ≤ 4)
      → (u : ℕ) (n : Node) → get_elem? ns u ≡ some n → node_at (pack_terms ns) u ≡ n
  unfolding pack_terms
  packed_node narrow u variable e =
      let l : u < node_limit = omega (arith, found_lt ns u variable e) in
      rw (column_at node_limit kind_of ns u variable l e)
  packed_node narrow u (functor f cs) e =
      let l : u < node_limit = omega (arith, found_lt ns u (functor f cs) e) in
      let w : length cs ≤ 4 = narrow u f cs e in
      let c : tab (length cs) (child_at (pack_terms ns) u) ≡ cs =
      tab_same (length cs) (child_at (pack_terms ns) u) (λ j. get_or cs j 0) (λ j h. packed_child u j (functor f cs) e (omega arith)) ∙ tab_list 0 cs in
      rw (column_at node_limit kind_of ns u (functor f cs) l e, column_at node_limit symbol_of ns u (functor f cs) l e, column_at node_limit arity_of ns u (functor f cs) l e)
      (ap (functor f) c)

  pub nodes_packed : ((u f : ℕ) (cs : List ℕ) → get_elem? ns u ≡ some (functor f cs) → length cs ≤ 4) → nodes_of (pack_terms ns) ≡ ns
  unfolding nodes_of pack_terms
  nodes_packed narrow = tab_found ns (node_at (pack_terms ns)) (packed_node narrow)
