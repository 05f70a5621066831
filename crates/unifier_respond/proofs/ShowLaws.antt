-- From what the writer promises of lines to proofs of goals, where the arrays have the right shape.
use mathlib.Core.Path.{refl}
use mathlib.Core.List.{List}
use Prim.Native.Nat.{ℕ, ◌<◌}
use native.Mathlib.Omega.{arith}
use Rattle.std.proofs.Common.{◌≡◌, Option, Some, None}
use Rattle.std.specs.Option.{IsSome}
use Rattle.graph.specs.State.{State}
use Rattle.graph.specs.Closure.{Cycle}
use Rattle.graph.specs.Lines.{same, below}
use Rattle.graph.specs.Goals.{clash_goal, cycle_goal, same_goal, below_goal}
use Rattle.store.specs.declared.Terms.{Terms}
use Rattle.store.specs.declared.Equations.{Equations}
use Rattle.store.specs.Views.{state_from}
use Rattle.store.specs.Shape.{Shape}
use Rattle.store.proofs.ViewLaws.{node_in}
use Rattle.solve_classes.specs.Table.{Table}
use Rattle.solve_classes.specs.Exact.{Exact}
use Rattle.solve_trace.specs.Nodes.{Nodes}
use Rattle.solve_trace.proofs.NodeLaws.{formed}
use Rattle.solve_trace.proofs.TraceLaws.{traced_table}
use Rattle.solve_trace.specs.declared.Entry.{Entry}
use Rattle.solve_reach.specs.declared.Circle.{Circle}
use Rattle.solve_reach.specs.declared.Search.{Search}
use Rattle.solve_reach.specs.Reach.{Searched}
use Rattle.solve_reach.specs.Search.{Reached, LeadsBack, MayCircle}
use Rattle.solve_reach.proofs.SearchLaws.{searched}
use Rattle.solve.specs.Decided.{Clashes}
use Rattle.proof_lines.specs.Proof.{ProofIn}
use Rattle.write_runs.proofs.GoalLaws.{proof, shows_same, shows_below, shows_cycle, shows_clash}
use Rattle.write_same.specs.Replay.{OneClass, Explained}
use Rattle.write_same.proofs.ShapeLaws.{shape_describes}
use Rattle.write_below.specs.Chain.{Lowered, Circled}
use Rattle.unifier_respond.specs.Shows.{Shows, TracedClosure}

-- ---- which goals a claim shows

module _ (s : State) {n : ℕ} {before after : List ℕ} where
  pub goal_same : (u v : ℕ) → Shows s (same u v) n before after → ProofIn s (same_goal u v) n before after
  goal_same u v f = f (same_goal u v) (shows_same s u v)

  pub goal_below_lem : (u v : ℕ) → Shows s (below u v) n before after → ProofIn s (below_goal u v) n before after
  goal_below_lem u v f = f (below_goal u v) (shows_below s u v)

  pub goal_clash : {t : List ℕ} (u v : ℕ) → Clashes s t u v → Shows s (same u v) n before after → ProofIn s clash_goal n before after
  goal_clash u v D f = f clash_goal (shows_clash s u v D.f D.g D.cs D.ds D.at_u D.at_v D.differ)

-- ---- the writer's lines

module _ (g : Terms) (q : Equations) (S : Shape g q) where
  module _ {es : List Entry} {t : List ℕ} (T : TracedClosure (state_from g q) es t) where
    pub closure_table : Table t
    closure_table = traced_table (state_from g q) (shape_describes g q S).ends.limited.proper T.traced

    pub down : {r : Search} {u : ℕ} → u < g.count → Reached g t r u → Searched (state_from g q) t r u
    down {r} {u} hu R = searched g (state_from g q) t r u closure_table (formed g S.terms) refl T.exact hu R

  module _ {es : List Entry} {buf out : List ℕ} {m : ℕ} where
    pub shown_same : (u v : ℕ) → u < g.count → v < g.count → OneClass (state_from g q) es u v → Explained g q es buf u v out m
        → Shows (state_from g q) (same u v) m buf out
    shown_same u v hu hv J E =
        proof (state_from g q) E.some_lines (omega (arith, E.high, S.terms.few)) E.kept
        (E.shown (state_from g q) (shape_describes g q S) J (node_in g q u hu) (node_in g q v hv))

    module _ {t : List ℕ} {r : Search} (T : TracedClosure (state_from g q) es t) (u : ℕ) (hu : u < g.count) (R : Reached g t r u) where
      pub shown_below : (v : ℕ) → v < g.count → Lowered g q es t r buf u v out m → Shows (state_from g q) (below u v) m buf out
      shown_below v hv L =
          proof (state_from g q) L.some_lines (omega (arith, L.high, S.terms.few)) L.kept
          (L.shown (state_from g q) (shape_describes g q S) T.traced (down T hu R).edges (node_in g q u hu) (node_in g q v hv))

      pub shown_cycle : Circled g q es t r buf out m → ProofIn (state_from g q) cycle_goal m buf out
      shown_cycle L =
          let k = L.shown (state_from g q) (shape_describes g q S) T.traced (down T hu R).edges in
          proof (state_from g q) L.some_lines (omega (arith, L.high, S.terms.few)) L.kept k.1 cycle_goal (shows_cycle (state_from g q) L.node)

-- ---- the cycle that was found

module _ (g : Terms) {t : List ℕ} (s : State) (N : Nodes g s) (E : Exact s t) where
  pub circle_there : (o : Option Circle) → MayCircle g t o → Cycle s → IsSome o
  circle_there (Some c) M C = refl
  circle_there None M C = absurd (M s N E C)

pub circle_leads : {g : Terms} {t : List ℕ} {o : Option Circle} {c : Circle} → o ≡ Some c → MayCircle g t o → LeadsBack g t c.node c.search
circle_leads q M = rw q at M
