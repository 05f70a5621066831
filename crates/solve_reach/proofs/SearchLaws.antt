-- What the search says of a state whose closure the table is: it reaches the classes below u, exactly. And cycles: a node below itself
-- has a functor node in its class.
use mathlib.Core.Path.{◌≡◌, refl, sym}
use mathlib.Core.Logic.{inl, inr, ⊎_elim}
use mathlib.Core.List.{List}
use mathlib.Core.Option.{some}
use Prim.Native.Nat.{ℕ, zero, suc, ◌≤◌, ◌<◌}
use native.Mathlib.Omega.{arith}
use lib.ListN.{length}
use Rattle.std.specs.Prelude.{Some, None}
use Rattle.std.specs.Option.{IsSome, IsNone}
use Rattle.graph.specs.State.{State, functor, IsNode, NodeAt, ChildAt}
use Rattle.graph.specs.Closure.{Same, reflexivity, symmetry, transitivity, Below, child, same_below, below_same, below_below}
use Rattle.graph.specs.Lines.{by_child}
use Rattle.graph.specs.Lines as lines
use Rattle.graph.proofs.ClosureLaws.{KeepsBelow, below_least}
use Rattle.store.specs.Views.{symbol_at, children_at, nodes_of}
use Rattle.store.specs.declared.Terms.{Terms}
use Rattle.store.proofs.ViewLaws.{nodes_length, child_found}
use Rattle.solve_classes.specs.Table.{class, Table}
use Rattle.solve_classes.specs.Exact.{Exact}
use Rattle.solve_trace.specs.Nodes.{Nodes, IsFunctor, Formed}
use Rattle.solve_trace.proofs.NodeLaws.{functor_found, known}
use Rattle.std.proofs.lemmas.Bool.{cases_eq}
use Rattle.solve_heights.proofs.OptionLaws.{some_of}
use Rattle.solve_heights.proofs.SummandLaws.{class_low}
use Rattle.solve_heights.specs.Peel.{height_at, Peeled}
use Rattle.solve_heights.specs.declared.Heights.{Heights}
use Rattle.solve_heights.proofs.OutcomeLaws.{child_under, cycle_left}
use Rattle.solve_reach.specs.Reach.{down_at, Reaches, Edge, Searched}
use Rattle.solve_reach.specs.Search.{Source, Step, Reached, MayLeadBack}
use Rattle.solve_reach.specs.declared.Down.{Down}
use Rattle.solve_reach.specs.declared.Search.{Search}

-- a child is a step down
by_child_lem : (s : State) (p f i k : ℕ) (cs : List ℕ) → NodeAt s p (functor f cs) → ChildAt cs i k → by_child s.nodes p (suc i) ≡ some (lines.below p k)
by_child_lem s p f i k cs n c = rw (n, c)

module _ (g : Terms) (s : State) (t : List ℕ) (r : Search) (u : ℕ) (T : Table t) (F : Formed g) (N : Nodes g s) (E : Exact s t)
    (u-known : u < g.count) (R : Reached g t r u) where
  child_count : {d : ℕ} {x : Down} → Step g t d x → x.into < g.count
  child_count {d} {x} S = omega (arith, S.child, F.earlier x.parent S.index S.functor.known S.within, S.functor.known)

  edge : (d : ℕ) (x : Down) → Step g t d x → Edge s t d x
  edge d x S =
      let p = x.parent in
      let c : ChildAt (children_at g p) S.index x.into = rw S.child (child_found g p S.index S.within) in
      record {
        parent_known = known g s N p S.functor.known;
        child_known = known g s N x.into (child_count S);
        in_class_lem = S.in_class_lem;
        step = rw S.place (by_child_lem s p (symbol_at g p) S.index x.into (children_at g p) (functor_found g s N p S.functor) c);
      }

  step_below : (d : ℕ) (x : Down) → Step g t d x → Below s x.parent x.into
  step_below d x S =
      let c : ChildAt (children_at g x.parent) S.index x.into = rw S.child (child_found g x.parent S.index S.within) in
      child S.index (functor_found g s N x.parent S.functor) c

  -- by induction on the level
  sound : (l v : ℕ) (x : Down) → v < g.count → down_at r (class t v) ≡ Some x → x.level ≤ l → Below s u v
  sound zero v x h a b = absurd (omega (arith, b, R.ways.low (class t v) x (class_low g t T F v h) a))
  sound (suc l) v x h a b =
      let d = class t v in
      let d_low : d < 64 = class_low g t T F v h in
      let S = R.steps d x d_low a in
      let p = x.parent in
      let down : Below s p v
      = below_same (step_below d x S) (E.only x.into v (known g s N x.into (child_count S)) (known g s N v h) S.in_class_lem) in
      ⊎_elim
      (λ e. same_below (E.only u p (known g s N u u-known) (known g s N p S.functor.known) (sym e)) down)
      (λ n.
      let O = R.ways.onward d x d_low a n in
      below_below (sound l p O.0 S.functor.known O.1.0 (omega (arith, O.1.1, b))) down)
      (cases_eq (class t p) (class t u))

  -- down from a source every class was reached
  Leads : ℕ → ℕ → Type 0
  Leads x y = Source t r u x → Reaches t r y

  leads : KeepsBelow s Leads
  unfolding Leads
  leads = record {
    by_child_lem = λ x f i y cs n c S. let K = child_under g s N x f i y cs n c in rw (← K.1.1) (R.closed x K.0 S i K.1.0);
    by_same_below = λ x y z p q S. q (moved x y (E.has p) S);
    by_below_same = λ x y z p q S. rw (← E.has q) (p S);
    by_below_below = λ x y z p q S. q (inr (p S));
  }
    where
      moved : (x y : ℕ) → class t x ≡ class t y → Source t r u x → Source t r u y
      moved x y e S = rw (← e) S

  pub searched : Searched s t r u
  unfolding Leads
  searched =
      record {
        edges = record { at = λ d x l h. edge d x (R.steps d x l h) };
        reached = λ v h a. let x = some_of (down_at r (class t v)) a in sound x.0.level v x.0 (counted v h) x.1 (omega arith);
        complete = λ v b. below_least s Leads leads b (inl refl);
      }
    where
      counted : (v : ℕ) → IsNode s v → v < g.count
      counted v h = let a : v < length (nodes_of g) = rw N at h in omega (arith, nodes_length g)

-- ---- cycles

-- what has something below it is the same as a functor node
module _ (g : Terms) (s : State) (N : Nodes g s) where
  Founded : ℕ → ℕ → Type 0
  Founded x y = (p : ℕ) × (IsFunctor g p × Same s x p)

  founded : KeepsBelow s Founded
  unfolding Founded
  founded = record {
    by_child_lem = λ x f i y cs n c. let U = (child_under g s N x f i y cs n c).0 in (x, (U, reflexivity (known g s N x U.known)));
    by_same_below = λ x y z p q. (q.0, (q.1.0, transitivity p q.1.1));
    by_below_same = λ x y z p q. p;
    by_below_below = λ x y z p q. p;
  }

  -- a cycle passes through a functor node
  pub cycle_functor : (x : ℕ) → Below s x x → (p : ℕ) × (IsFunctor g p × Below s p p)
  unfolding Founded
  cycle_functor x b =
      let W = below_least s Founded founded b in
      let S = W.1.1 in
      (W.0, (W.1.0, same_below (symmetry S) (below_same b S)))

-- ---- searches that may lead back

module _ (g : Terms) (t : List ℕ) (u : ℕ) (T : Table t) (F : Formed g) where
  -- a class that the peel took has no cycle
  pub peel_took : (p : Heights) → Peeled g t p → (c : ℕ) → c ≡ class t u → IsSome (height_at p.height c) → MayLeadBack g t u None
  peel_took p P c e h s N E U b =
      let a = some_of (height_at p.height c) h in
      cc (cycle_left g s t p T F N E P u b, a.1)

  module _ (r : Search) (known : u < g.count) (R : Reached g t r u) (c : ℕ) (e : c ≡ class t u) where
    pub never_back : IsNone (down_at r c) → MayLeadBack g t u None
    never_back h s N E U b =
        let k : IsSome (down_at r c) = rw e ((searched g s t r u T F N E known R).complete u b) in
        cc
