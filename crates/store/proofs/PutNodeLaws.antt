-- One node more at the end: the list of nodes gets longer by it, and the shape stays.
use mathlib.Core.Path.{◌≡◌, refl, sym, ap, ◌∙◌, subst}
use mathlib.Core.Logic.{⊎_elim}
use mathlib.Core.List.{List, [], ◌∷◌, ◌++◌}
use Prim.Native.Nat.{ℕ, ◌+◌, ◌*◌, ◌-◌, ◌≤◌, ◌<◌}
use native.Mathlib.Nat.{eq-or-lt_of_le}
use native.Mathlib.Omega.{arith}
use lib.ListN.{length, take, get_or, set, length-set, get_or-append}
use lib.Seq.{get_or-set_same, get_or-set_other, set-get_or, paste, length-paste, take-paste, drop-paste, get_or-take, get_or-drop, get_or-append-add, length-take-le}
use Rattle.graph.specs.Limits.{node_limit}
use Rattle.graph.specs.State.{variable, functor, OneArity}
use Rattle.graph.proofs.ArityLaws.{one_arity_declared}
use Rattle.base.specs.Tab.{tab}
use Rattle.base.proofs.TabLaws.{tab_same, tab_put, tab_list}
use Rattle.store.specs.Views.{kind_at, symbol_at, arity_at, child_at, children_at, node_at, nodes_of}
use Rattle.store.specs.Shape.{TermsShape}
use Rattle.store.specs.Operations.{with_variable, with_functor, Room, PutsNode}
use Rattle.store.specs.declared.Terms.{Terms}
use Rattle.std.proofs.lemmas.Bool.{cases_eq, cases_lt}
use Rattle.store.proofs.BelowLaws.{below_each}

-- ---- a variable

module _ (t : Terms) (room : t.count < length t.kind) where
  -- the place was an unused one, so its kind was 0 before
  same_kind : TermsShape t → t.count < node_limit → set t.kind t.count 0 ≡ t.kind
  same_kind s h = ap (set t.kind t.count) (sym (s.unused_nodes t.count (omega arith) h)) ∙ set-get_or t.kind t.count 0

  variable_nodes : nodes_of (with_variable t) ≡ nodes_of t ++ (variable ∷ [])
  unfolding nodes_of
  variable_nodes =
      tab_put t.count (t.count + 1) (node_at t) (node_at (with_variable t)) variable refl
      (λ i h. rw (get_or-set_other t.kind t.count i 0 0 (λ e. omega arith)))
      (rw (get_or-set_same t.kind t.count 0 0 room))

  variable_shape : t.count < node_limit → TermsShape t → TermsShape (with_variable t)
  variable_shape h s =
      let k : set t.kind t.count 0 ≡ t.kind = same_kind s h in
      record {
        kind_size = length-set t.kind t.count 0 ∙ s.kind_size;
        symbol_size = s.symbol_size;
        arity_size = s.arity_size;
        child_size = s.child_size;
        few = omega arith;
        kinds = λ u l. rw k (s.kinds u l);
        arities = s.arities;
        earlier = s.earlier;
        unused_children = s.unused_children;
        variables = λ u l e. s.variables u l (rw k at e);
        unused_nodes = λ u l w. rw k (s.unused_nodes u (omega arith) w);
        one_arity = subst OneArity (sym variable_nodes) (one_arity_declared (nodes_of t) variable refl s.one_arity);
      }

  pub puts_variable : t.count < node_limit → PutsNode t variable (with_variable t) (with_variable t)
  puts_variable h = record { exact = refl; count = refl; nodes = λ s. variable_nodes; shape = variable_shape h }

-- ---- values of a paste

module _ (l : List ℕ) (at : ℕ) (s : List ℕ) (fits : at + length s ≤ length l) where
  paste_before : (i : ℕ) → i < at → get_or (paste l at s (length s)) i 0 ≡ get_or l i 0
  paste_before i h =
      sym (get_or-take (at + length s) (paste l at s (length s)) i 0 (omega arith))
      ∙ ap (λ (x : List ℕ). get_or x i 0) (take-paste l at s (length s) (omega arith) (omega arith))
      ∙ get_or-append (take at l) (take (length s) s) 0 i (omega (arith, length-take-le at l (omega arith)))
      ∙ get_or-take at l i 0 h

  paste_in : (j : ℕ) → j < length s → get_or (paste l at s (length s)) (at + j) 0 ≡ get_or s j 0
  paste_in j h =
      let n : length (take at l) ≡ at = length-take-le at l (omega arith) in
      sym (get_or-take (at + length s) (paste l at s (length s)) (at + j) 0 (omega arith))
      ∙ ap (λ (x : List ℕ). get_or x (at + j) 0) (take-paste l at s (length s) (omega arith) (omega arith))
      ∙ ap (λ (k : ℕ). get_or (take at l ++ take (length s) s) (k + j) 0) (sym n)
      ∙ get_or-append-add (take at l) (take (length s) s) j 0
      ∙ get_or-take (length s) s j 0 h

  paste_past : (i : ℕ) → at + length s ≤ i → get_or (paste l at s (length s)) i 0 ≡ get_or l i 0
  paste_past i h =
      let e : at + length s + (i - (at + length s)) ≡ i = omega arith in
      ap (λ (k : ℕ). get_or (paste l at s (length s)) k 0) (sym e)
      ∙ sym (get_or-drop (at + length s) (paste l at s (length s)) (i - (at + length s)) 0)
      ∙ ap (λ (x : List ℕ). get_or x (i - (at + length s)) 0) (drop-paste l at s (length s) (omega arith) (omega arith))
      ∙ get_or-drop (at + length s) l (i - (at + length s)) 0
      ∙ ap (λ (k : ℕ). get_or l k 0) e

-- ---- a functor node

module _ (t : Terms) (f : ℕ) (cs : List ℕ) (S : TermsShape t) (R : Room t f cs) where
  fits : 4 * t.count + length cs ≤ length t.child
  fits = omega (arith, R.room, R.few, S.child_size)

  kind_other : (u : ℕ) → (u ≡ t.count → ⊥) → kind_at (with_functor t f cs) u ≡ kind_at t u
  kind_other u e = get_or-set_other t.kind t.count u 1 0 e

  kind_new : kind_at (with_functor t f cs) t.count ≡ 1
  kind_new = get_or-set_same t.kind t.count 1 0 (omega (arith, R.room, S.kind_size))

  symbol_other : (u : ℕ) → (u ≡ t.count → ⊥) → symbol_at (with_functor t f cs) u ≡ symbol_at t u
  symbol_other u e = get_or-set_other t.symbol t.count u f 0 e

  symbol_new : symbol_at (with_functor t f cs) t.count ≡ f
  symbol_new = get_or-set_same t.symbol t.count f 0 (omega (arith, R.room, S.symbol_size))

  arity_other : (u : ℕ) → (u ≡ t.count → ⊥) → arity_at (with_functor t f cs) u ≡ arity_at t u
  arity_other u e = get_or-set_other t.arity t.count u (length cs) 0 e

  arity_new : arity_at (with_functor t f cs) t.count ≡ length cs
  arity_new = get_or-set_same t.arity t.count (length cs) 0 (omega (arith, R.room, S.arity_size))

  child_other : (u j : ℕ) → (u ≡ t.count → ⊥) → j < 4 → child_at (with_functor t f cs) u j ≡ child_at t u j
  child_other u j e h =
      ⊎_elim
      (λ l. paste_before t.child (4 * t.count) cs fits (4 * u + j) (omega arith))
      (λ l. paste_past t.child (4 * t.count) cs fits (4 * u + j) (omega (arith, R.few, beyond l)))
      (cases_lt u t.count)
    where
      beyond : t.count ≤ u → t.count < u
      beyond l = ⊎_elim (λ q. absurd (e (sym q))) (λ q. q) (eq-or-lt_of_le l)

  child_new : (j : ℕ) → j < length cs → child_at (with_functor t f cs) t.count j ≡ get_or cs j 0
  child_new j h = paste_in t.child (4 * t.count) cs fits j h

  child_past : (j : ℕ) → length cs ≤ j → child_at (with_functor t f cs) t.count j ≡ child_at t t.count j
  child_past j h = paste_past t.child (4 * t.count) cs fits (4 * t.count + j) (omega arith)

  functor_nodes : nodes_of (with_functor t f cs) ≡ nodes_of t ++ (functor f cs ∷ [])
  unfolding nodes_of
  functor_nodes =
      tab_put t.count (t.count + 1) (node_at t) (node_at (with_functor t f cs)) (functor f cs) refl old
      (rw (kind_new, symbol_new) (ap (functor f) new))
    where
      old : (u : ℕ) → u < t.count → node_at (with_functor t f cs) u ≡ node_at t u
      old u h =
          let d : u ≡ t.count → ⊥ = λ e. omega arith in
          let c : children_at (with_functor t f cs) u ≡ children_at t u =
          ap (λ (k : ℕ). tab k (child_at (with_functor t f cs) u)) (arity_other u d)
          ∙ tab_same (arity_at t u) (child_at (with_functor t f cs) u) (child_at t u)
          (λ j l. child_other u j d (omega (arith, S.arities u (omega (arith, R.room))))) in
          rw (kind_other u d, symbol_other u d, c)

      new : children_at (with_functor t f cs) t.count ≡ cs
      new =
          ap (λ (k : ℕ). tab k (child_at (with_functor t f cs) t.count)) arity_new
          ∙ tab_same (length cs) (child_at (with_functor t f cs) t.count) (λ j. get_or cs j 0) child_new
          ∙ tab_list 0 cs

  -- by cases: the new node, or another
  functor_shape : TermsShape (with_functor t f cs)
  functor_shape = record {
    kind_size = length-set t.kind t.count 1 ∙ S.kind_size;
    symbol_size = length-set t.symbol t.count f ∙ S.symbol_size;
    arity_size = length-set t.arity t.count (length cs) ∙ S.arity_size;
    child_size = length-paste t.child (4 * t.count) cs (length cs) fits (omega arith) ∙ S.child_size;
    few = omega (arith, R.room);
    kinds = λ u l. ⊎_elim (λ q. omega (arith, ap (kind_at (with_functor t f cs)) q, kind_new)) (λ d. rw (kind_other u d) (S.kinds u l)) (cases_eq u t.count);
    arities = λ u l. ⊎_elim (λ q. omega (arith, ap (arity_at (with_functor t f cs)) q, arity_new, R.few)) (λ d. rw (arity_other u d) (S.arities u l)) (cases_eq u t.count);
    earlier = λ u j l h. ⊎_elim (λ q. earlier_new u j q h) (λ d. earlier_other u j d l h) (cases_eq u t.count);
    unused_children = λ u j l h w. ⊎_elim (λ q. unused_new u j q h w) (λ d. child_other u j d w ∙ S.unused_children u j l (rw (arity_other u d) at h) w) (cases_eq u t.count);
    variables = λ u l e. ⊎_elim (λ q. absurd (variable_new u q e)) (λ d. variable_other u d l e) (cases_eq u t.count);
    unused_nodes = λ u h w. kind_other u (λ q. omega arith) ∙ S.unused_nodes u (omega arith) w;
    one_arity = subst OneArity (sym functor_nodes) (one_arity_declared (nodes_of t) (functor f cs) R.fits S.one_arity);
  }
    where
      earlier_new : (u j : ℕ) → u ≡ t.count → j < arity_at (with_functor t f cs) u → child_at (with_functor t f cs) u j < u
      earlier_new u j q h =
          let k : j < length cs = omega (arith, h, ap (arity_at (with_functor t f cs)) q, arity_new) in
          rw q (rw (child_new j k) (below_each t.count cs R.known j k))

      earlier_other : (u j : ℕ) → (u ≡ t.count → ⊥) → u < node_limit → j < arity_at (with_functor t f cs) u → child_at (with_functor t f cs) u j < u
      earlier_other u j d l h =
          let k : j < arity_at t u = rw (arity_other u d) at h in
          rw (child_other u j d (omega (arith, S.arities u l))) (S.earlier u j l k)

      unused_new : (u j : ℕ) → u ≡ t.count → arity_at (with_functor t f cs) u ≤ j → j < 4 → child_at (with_functor t f cs) u j ≡ 0
      unused_new u j q h w =
          let k : length cs ≤ j = omega (arith, h, ap (arity_at (with_functor t f cs)) q, arity_new) in
          let z : arity_at t t.count ≡ 0 = (S.variables t.count R.room (S.unused_nodes t.count (omega arith) R.room)).1 in
          rw q (child_past j k ∙ S.unused_children t.count j R.room (omega arith) w)

      variable_new : (u : ℕ) → u ≡ t.count → kind_at (with_functor t f cs) u ≡ 0 → ⊥
      variable_new u q e = omega (arith, ap (kind_at (with_functor t f cs)) q, kind_new, e)

      variable_other : (u : ℕ) → (u ≡ t.count → ⊥) → u < node_limit → kind_at (with_functor t f cs) u ≡ 0
          → (symbol_at (with_functor t f cs) u ≡ 0) × (arity_at (with_functor t f cs) u ≡ 0)
      variable_other u d l e =
          let v : (symbol_at t u ≡ 0) × (arity_at t u ≡ 0) = S.variables u l (sym (kind_other u d) ∙ e) in
          (symbol_other u d ∙ v.0, arity_other u d ∙ v.1)

pub puts_functor : (t : Terms) (f : ℕ) (cs : List ℕ) → Room t f cs → PutsNode t (functor f cs) (with_functor t f cs) (with_functor t f cs)
puts_functor t f cs R =
    record { exact = refl; count = refl; nodes = λ S. functor_nodes t f cs S R; shape = λ S. functor_shape t f cs S R }
