-- From arrays to the state that they hold: the state is proper, a clash of arrays is one of the state, and a closed table is exact.
use Rattle.std.proofs.Common.{◌≡◌, refl, sym, ◌∙◌, ap, List, [], ℕ, ◌<◌, arith, get_or}
use Rattle.std.proofs.Math.Option.{some}
use Rattle.graph.specs.State.{Equation, State, Held, Proper}
use Rattle.graph.specs.Closure.{Clash}
use Rattle.graph.specs.Solution.{Classes}
use Rattle.base.proofs.ListLaws.{found_lt}
use Rattle.graph.proofs.SolutionLaws.{same_class}
use Rattle.solve_classes.specs.Table.{class, Fresh}
use Rattle.solve_classes.specs.Exact.{Exact, Sound}
use Rattle.store.specs.Views.{symbol_at, children_at, equation_at, state_from}
use Rattle.store.specs.Shape.{Shape}
use Rattle.store.specs.declared.Terms.{Terms}
use Rattle.store.specs.declared.Equations.{Equations}
use Rattle.store.proofs.ViewLaws.{child_known, equations_length, equation_found}
use Rattle.solve_trace.specs.Nodes.{Nodes, Formed, EquationEnds}
use Rattle.solve_trace.specs.declared.Entry.{Entry}
use Rattle.solve_trace.specs.Trace.{Traced, start}
use Rattle.solve_trace.specs.Steps.{PairsJoined}
use Rattle.solve_closure.specs.declared.Settling.{Settling}
use Rattle.solve_closure.specs.Rounds.{Clashing, Closed, Rounds}
use Rattle.solve_closure.specs.Settled.{Given, ArraysHold, RoundsEnded, Settled}
use Rattle.solve_trace.proofs.NodeLaws.{functor_found, functor_known, fits, known, formed}
use Rattle.solve_trace.proofs.TraceLaws.{traced_sound}

module _ (g : Terms) (e : Equations) (s : State) (A : Given g e) (H : ArraysHold g e s) where
  -- a held equation stands in the arrays
  held_at : (d : Equation) → Held s d → (k : ℕ) × ((k < e.count) × ((d.left ≡ get_or e.left k 0) × (d.right ≡ get_or e.right k 0)))
  held_at c h =
      let l : h.0 < e.count = omega (arith, found_lt s.equations h.0 c h.1, H.count) in
      let q : some (H.ends.at h.0) ≡ some c = sym (H.ends.found h.0 l) ∙ h.1 in
      let d : H.ends.at h.0 ≡ c = cc in
      (h.0, (l, (ap (λ (x : Equation). x.left) (sym d) ∙ H.ends.lefts h.0 l, ap (λ (x : Equation). x.right) (sym d) ∙ H.ends.rights h.0 l)))

  pub proper : Proper s
  proper =
      record {
        earlier = λ u f i v cs n c.
            let K = functor_known g s H.nodes u f cs n in
            let C = child_known g u i v (rw (← K.1.1) at c) in
            omega (arith, A.formed.earlier u i K.0.known C.0, C.1);
        left_known = λ d h. let w = held_at d h in known g s H.nodes d.left (omega (arith, w.1.1.0, A.lefts w.0 w.1.0));
        right_known = λ d h. let w = held_at d h in known g s H.nodes d.right (omega (arith, w.1.1.1, A.rights w.0 w.1.0));
      }

module _ (g : Terms) (s : State) (N : Nodes g s) (t : List ℕ) (inside : Sound s t) where
  pub clash_of : (u v : ℕ) → Clashing g t u v → Clash s
  clash_of u v C =
      record {
        u = u;
        v = v;
        f = symbol_at g u;
        g = symbol_at g v;
        cs = children_at g u;
        ds = children_at g v;
        at_u = functor_found g s N u C.left;
        at_v = functor_found g s N v C.right;
        differ = C.differ;
        joins = inside u v (known g s N u C.left.known) (known g s N v C.right.known) C.joined;
      }

  module _ (closed : Closed g t) (equated : (e : Equation) → Held s e → class t e.left ≡ class t e.right) where
    abbrev classes_of : Classes s
    classes_of =
        record {
          class = class t;
          equated = equated;
          label = λ u v f h cs ds n o q.
              let K = functor_known g s N u f cs n in
              let L = functor_known g s N v h ds o in
              sym K.1.0 ∙ (closed u v K.0 L.0 q).alike ∙ L.1.0;
          place = λ u v f h i x y cs ds n o q c d.
              let K = functor_known g s N u f cs n in
              let L = functor_known g s N v h ds o in
              let C = child_known g u i x (rw (← K.1.1) at c) in
              let D = child_known g v i y (rw (← L.1.1) at d) in
              ap (class t) (sym C.1) ∙ (closed u v K.0 L.0 q).places i C.0 ∙ ap (class t) D.1;
        }

    pub exact_of : Exact s t
    exact_of = record { classes = classes_of; table = λ u. refl; has = λ q. same_class s classes_of q; only = inside }

-- well-shaped arrays are what settling asks, and hold their own state
pub given_shape : (g : Terms) (e : Equations) → Shape g e → Given g e
given_shape g e S =
    record { formed = formed g S.terms; most = S.equations.few; lefts = S.equations.lefts; rights = S.equations.rights }

pub holds_state : (g : Terms) (e : Equations) → ArraysHold g e (state_from g e)
holds_state g e =
    record {
      nodes = refl;
      ends = record { at = equation_at e; found = λ k h. equation_found e k h; lefts = λ k h. refl; rights = λ k h. refl };
      count = equations_length e;
    }

pub ended : {g : Terms} {t : List ℕ} {es fs : List Entry} {o : Settling} → Rounds g t es o fs → RoundsEnded g o fs
ended W = record { ready = W.extends.ready; meets = W.clashes }

-- a trace and the table's rules give the verdict
pub verdict : (g : Terms) (s : State) {t : List ℕ} {es fs : List Entry} {o : Settling} → Formed g → Nodes g s → Proper s → Rounds g t es o fs → Traced s fs o.table
    → ((e : Equation) → Held s e → class o.table e.left ≡ class o.table e.right) → Settled g s o fs
verdict g s {o} F N P W T equated =
    let inside : Sound s o.table = traced_sound s P (fits g s N F) T in
    record {
      ended = ended W;
      traced = T;
      proper = P;
      sound = inside;
      clashes = λ u v q. clash_of g s N o.table inside u v (W.clashes u v q);
      exact = λ q. exact_of g s N o.table inside (W.closes q) equated;
    }

-- the whole run: equations from the fresh table, then rounds
pub solved : (g : Terms) (e : Equations) (f : List ℕ) {t : List ℕ} {es fs : List Entry} {o : Settling} → Given g e → Fresh f
    → PairsJoined (EquationEnds e) (λ j. get_or e.left j 0) (λ j. get_or e.right j 0) e.count f [] t es
    → Rounds g t es o fs
    → (s : State) → ArraysHold g e s → Settled g s o fs
solved g e f {o} A F P W s H =
    verdict g s A.formed H.nodes (proper g e s A H) W
    (W.extends.traced s H.nodes (P.extends.traced s H.ends (start F)))
    (λ d h.
    let w = held_at g e s A H d h in
    ap (class o.table) w.1.1.0
    ∙ W.extends.grows _ _ (omega (arith, A.lefts w.0 w.1.0, A.formed.most)) (omega (arith, A.rights w.0 w.1.0, A.formed.most)) (P.joined w.0 w.1.0)
    ∙ sym (ap (class o.table) w.1.1.1))
