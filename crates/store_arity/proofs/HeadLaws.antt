-- One number of children for each symbol: node by node, by the heads of symbols.
--   rule_none, rule_more, rule_not   the rule of the first nodes, one more that fits, one that doesn't
--   heads_none, heads_more           the heads of the first nodes, and of one more
--   fits_alone, fits_head, fits_all  what the head that a node meets says of it: none, of its symbol, of another
use mathlib.Core.Path.{◌≡◌, sym, ap, ◌∙◌, subst}
use mathlib.Core.Bool.{Bool, true, false}
use mathlib.Core.Logic.{⊎_elim}
use mathlib.Core.List.{List, [], ◌∷◌, ◌++◌}
use mathlib.Core.Option.{some}
use Prim.Native.Nat.{ℕ, ◌+◌, ◌%◌, ◌≤◌, ◌<◌}
use native.Mathlib.Nat.{mod-lt, not-suc-le-zero}
use native.Mathlib.Omega.{arith}
use lib.ListN.{get_or, get_elem?, set, replicate, length-set, length-replicate, get_or-replicate}
use lib.Seq.{get_or-set_same, get_or-set_other}
use lib.Dec.{eqb}
use borrow.Author.Tests.{eq-eqb, ne_eqb}
use borrow.Author.Count.{below_more}
use Rattle.std.specs.Prelude.{Option, Some, None}
use Rattle.graph.specs.State.{Node, functor, OneArity}
use Rattle.graph.specs.Book.{arity_fits, node_fits}
use Rattle.graph.proofs.ArityLaws.{at_fits, fits_by_one, one_arity_empty, one_arity_declared, last_fits}
use Rattle.std.proofs.lemmas.Bool.{cases_eq, cases_lt}
use Rattle.base.specs.Tells.{Tells}
use Rattle.base.proofs.TabLaws.{tab_none}
use Rattle.base.proofs.TellLaws.{tells_not}
use Rattle.store.specs.Views.{kind_at, symbol_at, arity_at, children_at, node_at, nodes_of}
use Rattle.store.specs.Heads.{Meets, variable, first, further}
use Rattle.store.specs.declared.Terms.{Terms}
use Rattle.store.proofs.ViewLaws.{node_found, node_known, functor_found, functor_known, children_length}
use Rattle.store_arity.proofs.FitLaws.{nodes_more}
use Rattle.store_arity.specs.Rule.{first_nodes, ArityRule, FitsBefore}
use Rattle.store_arity.specs.SymbolHeads.{SymbolHeads}

module _ (t : Terms) where
  -- ---- the rule

  pub rule_none : ArityRule t 0
  unfolding nodes_of
  rule_none = subst OneArity (sym (tab_none (node_at t))) one_arity_empty

  -- one node more, which fits
  pub rule_more : (u : ℕ) (r : Bool) → ArityRule t u → r ≡ true → FitsBefore t u r → ArityRule t (u + 1)
  rule_more u r O e f =
      subst OneArity (sym (nodes_more t u)) (one_arity_declared (nodes_of (first_nodes t u)) (node_at t u) (sym f ∙ e) O)

  -- of fewer nodes
  rule_fewer : (k n : ℕ) → k ≤ n → ArityRule t n → ArityRule t k
  rule_fewer k n l O u v f cs ds p q = O u v f cs ds (moved u (functor f cs) p) (moved v (functor f ds) q)
    where
      moved : (x : ℕ) (m : Node) → get_elem? (nodes_of (first_nodes t k)) x ≡ some m → get_elem? (nodes_of (first_nodes t n)) x ≡ some m
      moved x m h = let w = node_known (first_nodes t k) x m h in node_found (first_nodes t n) x (omega (arith, w.0)) ∙ ap some w.1

  -- one node that doesn't fit those before it
  pub rule_not : (u n : ℕ) (r : Bool) → u < n → r ≡ false → FitsBefore t u r → Tells (ArityRule t n) false
  rule_not u n r h e f =
      tells_not (λ O.
      let o : OneArity (nodes_of (first_nodes t u) ++ (node_at t u ∷ [])) = subst OneArity (nodes_more t u) (rule_fewer (u + 1) n (omega arith) O) in
      cc (last_fits (nodes_of (first_nodes t u)) (node_at t u) o))

  -- ---- heads

  pub heads_none : SymbolHeads t (replicate 64 None) 0
  heads_none = record {
    size = length-replicate {A = Option ℕ} 64 None;
    earlier = λ h v l e. absurd (empty h v l e);
    functor = λ h v l e. absurd (empty h v l e);
    headed = λ v l. absurd (not-suc-le-zero l);
  }
    where
      empty : (h v : ℕ) → h < 64 → get_or (replicate 64 None) h None ≡ Some v → ⊥
      empty h v l e = let n : ◌≡◌ {A = Option ℕ} (get_or (replicate 64 None) h None) None = get_or-replicate 64 h None None l in cc

  module _ (head : List (Option ℕ)) (u : ℕ) (H : SymbolHeads t head u) where
    -- the head table, where it stays
    kept : (kind_at t u ≡ 1 → get_or head (symbol_at t u % 64) None ≡ None → ⊥) → SymbolHeads t head (u + 1)
    kept own = record {
      size = H.size;
      earlier = λ h v l e. omega (arith, H.earlier h v l e);
      functor = H.functor;
      headed = below_more _ u H.headed own;
    }

    module _ (k : kind_at t u ≡ 1) where
      at : ℕ
      at = symbol_at t u % 64

      at_low : at < 64
      unfolding at
      at_low = mod-lt (symbol_at t u) (omega arith)

      here : (h : ℕ) → h ≡ at → get_or (set head at (Some u)) h None ≡ Some u
      here h q = ap (λ (x : ℕ). get_or (set head at (Some u)) x None) q ∙ get_or-set_same head at (Some u) None (omega (arith, at_low, H.size))

      there : (h : ℕ) → (h ≡ at → ⊥) → get_or (set head at (Some u)) h None ≡ get_or head h None
      there h d = get_or-set_other head at h (Some u) None d

      -- the node of the head that stands there now
      now_u : (h v : ℕ) → h ≡ at → get_or (set head at (Some u)) h None ≡ Some v → v ≡ u
      now_u h v q e = let n : get_or (set head at (Some u)) h None ≡ Some u = here h q in cc

      became : SymbolHeads t (set head (symbol_at t u % 64) (Some u)) (u + 1)
      unfolding at
      became = record {
        size = length-set head at (Some u) ∙ H.size;
        earlier = λ h v l e. ⊎_elim (λ q. omega (arith, now_u h v q e)) (λ d. omega (arith, H.earlier h v l (sym (there h d) ∙ e))) (cases_eq h at);
        functor = λ h v l e. ⊎_elim (λ q. rw (now_u h v q e) k) (λ d. H.functor h v l (sym (there h d) ∙ e)) (cases_eq h at);
        headed = λ v l c e.
            ⊎_elim (λ q. let n : get_or (set head at (Some u)) (symbol_at t v % 64) None ≡ Some u = here (symbol_at t v % 64) q in cc)
            (λ d. ⊎_elim (λ q. H.headed v q c (sym (there (symbol_at t v % 64) d) ∙ e)) (λ q. let w : v ≡ u = omega arith in d (ap (λ (x : ℕ). symbol_at t x % 64) w)) (cases_lt v u))
            (cases_eq (symbol_at t v % 64) at);
      }

    pub heads_more : {next : List (Option ℕ)} {m : Option ℕ} (c : ℕ) → c ≡ symbol_at t u % 64 → Meets head c t u next m → SymbolHeads t next (u + 1)
    heads_more c e M = go c e M
      where
        go : (c : ℕ) → c ≡ symbol_at t u % 64 → {next : List (Option ℕ)} {m : Option ℕ} → Meets head c t u next m → SymbolHeads t next (u + 1)
        go c e (variable d) = kept (λ k. absurd (d k))
        go c e (first k l) = rw e (became k)
        go c e (further v k l) = kept (λ q z. let w : get_or head c None ≡ None = rw e z in cc)

    -- ---- node u beside those before it, by the head that it meets

    module _ {next : List (Option ℕ)} {m : Option ℕ} {c : ℕ} (e : c ≡ symbol_at t u % 64) (M : Meets head c t u next m) where
      abbrev before : List Node
      before = nodes_of (first_nodes t u)

      -- a functor node fits where its number of children does
      own_fits : kind_at t u ≡ 1 → node_fits (node_at t u) before ≡ arity_fits (symbol_at t u) (arity_at t u) before
      own_fits k = rw (eq-eqb (kind_at t u) 1 k) (ap (λ (x : ℕ). arity_fits (symbol_at t u) x before) (children_length t u))

      -- no head is met: u is a variable, or no node before it leaves its symbol's remainder
      pub fits_alone : m ≡ None → FitsBefore t u true
      fits_alone z = go M z
        where
          go : {next : List (Option ℕ)} {m : Option ℕ} → Meets head c t u next m → m ≡ None → true ≡ node_fits (node_at t u) before
          go (variable d) z = rw (ne_eqb (kind_at t u) 1 d)
          go (first k l) z =
              sym (own_fits k
              ∙ at_fits (symbol_at t u) (arity_at t u) before (λ x ds h.
              let w = functor_known (first_nodes t u) x (symbol_at t u) ds h in
              absurd (H.headed x w.0 w.1 (ap (λ (y : ℕ). get_or head (y % 64) None) w.2 ∙ ap (λ (y : ℕ). get_or head y None) (sym e) ∙ l))))
          go (further v k l) z = cc

      -- a head is met: an earlier functor node
      met : (v : ℕ) → m ≡ Some v → (kind_at t u ≡ 1) × (v < u) × (kind_at t v ≡ 1)
      met v z = go M z
        where
          low : c < 64
          low = rw e (mod-lt (symbol_at t u) (omega arith))

          go : {next : List (Option ℕ)} {m : Option ℕ} → Meets head c t u next m → m ≡ Some v → (kind_at t u ≡ 1) × (v < u) × (kind_at t v ≡ 1)
          go (variable d) z = cc
          go (first k l) z = cc
          go (further w k l) z = let q : get_or head c None ≡ Some v = l ∙ z in (k, H.earlier c v low q, H.functor c v low q)

      -- so its number is one of the arrays', as w has it
      pub met_place : {v w : ℕ} → m ≡ Some v → w ≡ v → u < 64 → w < 64
      met_place z q l = omega (arith, (met _ z).1, q, l)

      -- one of its symbol decides
      pub fits_head : (v : ℕ) → m ≡ Some v → symbol_at t v ≡ symbol_at t u → ArityRule t u → FitsBefore t u (eqb (arity_at t v) (arity_at t u))
      fits_head v z s O =
          let w = met v z in
          ap (λ (x : ℕ). eqb x (arity_at t u)) (sym (children_length t v))
          ∙ fits_by_one (symbol_at t u) (arity_at t u) before O v (children_at t v) (rw (← s) (functor_found (first_nodes t u) v w.1 w.2))
          ∙ sym (own_fits w.0)

      -- the test of all nodes before it does
      pub fits_all : (v : ℕ) → m ≡ Some v → {r : Bool} → r ≡ arity_fits (symbol_at t u) (arity_at t u) before → FitsBefore t u r
      fits_all v z f = f ∙ sym (own_fits (met v z).0)
