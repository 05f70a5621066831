-- The rules that the test goes through are together the shape, both ways.
use mathlib.Core.Path.{◌≡◌, sym, ap, ◌∙◌}
use mathlib.Core.Bool.{Bool, true, false, ◌&&◌}
use mathlib.Core.Logic.{⊎_elim}
use Prim.Native.Nat.{ℕ, ◌+◌, ◌*◌, ◌/◌, ◌%◌, ◌≤◌, ◌<◌}
use native.Mathlib.Nat.{mod-lt, div-add-mod}
use native.Mathlib.Omega.{arith}
use lib.ListN.{length, get_or}
use Rattle.graph.specs.Limits.{node_limit, child_limit}
use Rattle.graph.specs.State.{OneArity}
use Rattle.store.specs.Views.{kind_at, symbol_at, arity_at, nodes_of}
use Rattle.store.specs.Shape.{TermsShape}
use Rattle.store.specs.declared.Terms.{Terms}
use Rattle.store.specs.declared.Equations.{Equations}
use Rattle.std.proofs.lemmas.Bool.{cases_lt}
use Rattle.store_shape.specs.Rules.{EachBelow, ZeroFrom, NodeRule, EndRules}
use Rattle.base.specs.Tells.{Tells, Each}
use Rattle.base.proofs.TellLaws.{tells_same, tells_both, tells_not}

-- ---- nodes

-- the arrays' lengths, as the struct's own rule says
pub record Sizes (t : Terms) : Type 0 where
  pub kinds : length t.kind ≡ node_limit
  pub symbols : length t.symbol ≡ node_limit
  pub arities : length t.arity ≡ node_limit
  pub children : length t.child ≡ child_limit * node_limit

module _ (t : Terms) (Z : Sizes t) (few : t.count ≤ node_limit) where
  -- each node in use keeps its rules, each unused place is zero, and functor nodes of one symbol have equally many children
  pub record Ruled : Type 0 where
    pub used : Each (NodeRule t) t.count
    pub kinds : ZeroFrom t.kind t.count
    pub symbols : ZeroFrom t.symbol t.count
    pub arities : ZeroFrom t.arity t.count
    pub children : ZeroFrom t.child (4 * t.count)
    pub fitting : OneArity (nodes_of t)

  ruled_shape : Ruled → TermsShape t
  ruled_shape R = record {
    kind_size = Z.kinds;
    symbol_size = Z.symbols;
    arity_size = Z.arities;
    child_size = Z.children;
    few = few;
    kinds = λ u h. ⊎_elim (λ l. (R.used u l).head.kind) (λ l. omega (arith, kind_zero u h l)) (cases_lt u t.count);
    arities = λ u h. ⊎_elim (λ l. (R.used u l).head.arity) (λ l. omega (arith, arity_zero u h l)) (cases_lt u t.count);
    earlier = λ u j h g.
        ⊎_elim (λ l. ((R.used u l).places j (omega (arith, g, (R.used u l).head.arity))).earlier g) (λ l. absurd (omega (arith, g, arity_zero u h l))) (cases_lt u t.count);
    unused_children = λ u j h g w. ⊎_elim (λ l. ((R.used u l).places j w).unused g) (λ l. R.children (4 * u + j) (omega (arith, Z.children)) (omega arith)) (cases_lt u t.count);
    variables = λ u h e. ⊎_elim (λ l. ((R.used u l).head.symbol_zero e, (R.used u l).head.arity_zero e)) (λ l. (R.symbols u (omega (arith, Z.symbols)) l, arity_zero u h l)) (cases_lt u t.count);
    unused_nodes = λ u l h. kind_zero u h l;
    one_arity = R.fitting;
  }
    where
      kind_zero : (u : ℕ) → u < node_limit → t.count ≤ u → kind_at t u ≡ 0
      kind_zero u h l = R.kinds u (omega (arith, Z.kinds)) l

      arity_zero : (u : ℕ) → u < node_limit → t.count ≤ u → arity_at t u ≡ 0
      arity_zero u h l = R.arities u (omega (arith, Z.arities)) l

  shape_ruled : TermsShape t → Ruled
  shape_ruled S = record {
    used = λ u h.
        let l : u < node_limit = omega (arith, few) in
        record {
          head = record {
            kind = S.kinds u l;
            arity = S.arities u l;
            symbol_zero = λ e. (S.variables u l e).0;
            arity_zero = λ e. (S.variables u l e).1;
          };
          places = λ j w. record { earlier = S.earlier u j l; unused = λ g. S.unused_children u j l g w };
        };
    kinds = λ u h l. S.unused_nodes u l (omega (arith, Z.kinds));
    symbols = λ u h l. (empty u (omega (arith, Z.symbols)) l).0;
    arities = λ u h l. (empty u (omega (arith, Z.arities)) l).1;
    children = λ i h l. place i (omega (arith, Z.children)) l;
    fitting = S.one_arity;
  }
    where
      empty : (u : ℕ) → u < node_limit → t.count ≤ u → (symbol_at t u ≡ 0) × (arity_at t u ≡ 0)
      empty u h l = S.variables u h (S.unused_nodes u l h)

      place : (i : ℕ) → i < child_limit * node_limit → 4 * t.count ≤ i → get_or t.child i 0 ≡ 0
      place i h l =
          let e : 4 * (i / 4) + i % 4 ≡ i = div-add-mod i 4 in
          let m : i % 4 < 4 = mod-lt i (omega arith) in
          let u : i / 4 < node_limit = omega arith in
          ap (λ (x : ℕ). get_or t.child x 0) (sym e)
          ∙ S.unused_children (i / 4) (i % 4) u (omega (arith, (empty (i / 4) u (omega arith)).1)) m

  pub tells_terms : {u k f a c o : Bool} → Tells (Each (NodeRule t) t.count) u → Tells (ZeroFrom t.kind t.count) k
      → Tells (ZeroFrom t.symbol t.count) f → Tells (ZeroFrom t.arity t.count) a → Tells (ZeroFrom t.child (4 * t.count)) c
      → Tells (OneArity (nodes_of t)) o → Tells (TermsShape t) ((u && (((k && f) && a) && c)) && o)
  tells_terms tu tk tf ta tc to =
      tells_same
      (λ p. ruled_shape (record { used = p.0.0; kinds = p.0.1.0.0.0; symbols = p.0.1.0.0.1; arities = p.0.1.0.1; children = p.0.1.1; fitting = p.1 }))
      (λ S. let R : Ruled = shape_ruled S in ((R.used, (((R.kinds, R.symbols), R.arities), R.children)), R.fitting))
      (tells_both (tells_both tu (tells_both (tells_both (tells_both tk tf) ta) tc)) to)

-- ---- equations

-- a second test is made only where the first passed
pub tells_then : {P Q : Type 0} {a b : Bool} → Tells P a → a ≡ true → Tells Q b → Tells (P × Q) b
tells_then t e u = record { holds = λ f. (t.holds e, u.holds f); fails = λ f q. u.fails f q.1 }

pub tells_else : {P Q : Type 0} {a : Bool} → Tells P a → a ≡ false → Tells (P × Q) false
tells_else t e = tells_not (λ q. t.fails e q.0)

module _ (n : ℕ) (e : Equations) where
  pub tells_ends : {a b c d f : Bool} → Tells (EachBelow e.left n e.count) a → Tells (EachBelow e.right n e.count) b → Tells (ZeroFrom e.name e.count) c
      → Tells (ZeroFrom e.left e.count) d → Tells (ZeroFrom e.right e.count) f → Tells (EndRules n e) ((a && b) && ((c && d) && f))
  tells_ends ta tb tc td tf =
      tells_same
      (λ p. record { lefts = p.0.0; rights = p.0.1; unused_names = p.1.0.0; unused_lefts = p.1.0.1; unused_rights = p.1.1 })
      (λ E. ((E.lefts, E.rights), ((E.unused_names, E.unused_lefts), E.unused_rights)))
      (tells_both (tells_both ta tb) (tells_both (tells_both tc td) tf))
