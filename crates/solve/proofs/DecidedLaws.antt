-- A settled closure, decided: a clash, a solution where the peel leaves nothing, else a cycle.
use Rattle.std.proofs.Common.{◌≡◌, refl, ap, List, ℕ, ◌≤◌, arith, length, Some, None}
use Rattle.graph.specs.State.{State}
use Rattle.graph.specs.Verdict.{clashes, cycles}
use Rattle.graph.proofs.SolutionLaws.{classes_no_clash, solution_verdict}
use Rattle.store.specs.Views.{symbol_at, children_at}
use Rattle.store.specs.declared.Terms.{Terms}
use Rattle.store.proofs.ViewLaws.{nodes_length}
use Rattle.solve_trace.specs.declared.Entry.{Entry}
use Rattle.solve_trace.specs.Nodes.{Nodes, Formed}
use Rattle.solve_trace.proofs.NodeLaws.{functor_found}
use Rattle.solve_trace.proofs.StepLaws.{ready_room}
use Rattle.solve_heights.specs.Peel.{Peeled}
use Rattle.solve_heights.specs.declared.Heights.{Heights}
use Rattle.solve_heights.proofs.OutcomeLaws.{solution, all_went, cycle}
use Rattle.solve_closure.specs.Rounds.{Clashing}
use Rattle.solve_closure.specs.Settled.{Settled}
use Rattle.solve_closure.specs.declared.Settling.{Settling}
use Rattle.solve.specs.Decided.{Clashes, Decided}
use Rattle.solve.specs.declared.Finding.{Finding}
use Rattle.solve.specs.declared.Finding.TheVariants.{Solved, Clash, Cycle}
use Rattle.solve.specs.declared.SolveResult.{SolveResult}

abbrev pub found : List ℕ → Heights → Finding → SolveResult
found t p v = record { table = t; heights = p; verdict = v }

module _ (g : Terms) (s : State) (F : Formed g) (N : Nodes g s) (es : List Entry) {o : Settling} (D : Settled g s o es) where
  few : length es ≤ 63
  few = omega (arith, ready_room D.ended.ready)

  clashes_at : (u v : ℕ) → Clashing g o.table u v → Clashes s o.table u v
  clashes_at u v C =
      record {
        f = symbol_at g u;
        g = symbol_at g v;
        cs = children_at g u;
        ds = children_at g v;
        at_u = functor_found g s N u C.left;
        at_v = functor_found g s N v C.right;
        differ = C.differ;
        joined = C.joined;
      }

  pub decided_clash : (p : Heights) (u v : ℕ) → o.clash ≡ Some (u, v) → Decided s (found o.table p (Clash u v)) es
  decided_clash p u v q =
      record {
        proper = D.proper;
        verdict = clashes (D.clashes u v q);
        ready = D.ended.ready;
        few = few;
        traced = D.traced;
        sound = D.sound;
        exact = λ d. absurd (d refl);
        because = clashes_at u v (D.ended.meets u v q);
      }

  module _ (p : Heights) (q : o.clash ≡ None) (P : Peeled g o.table p) where
    pub decided_solved : p.left ≡ 0 → Decided s (found o.table p Solved) es
    decided_solved z =
        let E = D.exact q in
        let S = solution g s o.table p D.ended.ready.table F N E P z in
        record {
          proper = D.proper;
          verdict = solution_verdict s D.proper S;
          ready = D.ended.ready;
          few = few;
          traced = D.traced;
          sound = D.sound;
          exact = λ d. E;
          because =
              record {
                exact = E;
                solution = S;
                classes = λ u. E.table u;
                heights = λ u. refl;
                went = λ u h. all_went g s o.table p D.ended.ready.table F N E P z u (omega (arith, nodes_length g, ap length N, h));
              };
        }

    pub decided_cycle : (p.left ≡ 0 → ⊥) → Decided s (found o.table p Cycle) es
    decided_cycle z =
        let E = D.exact q in
        let C = cycle g s o.table p D.ended.ready.table F N E P z in
        record {
          proper = D.proper;
          verdict = cycles (classes_no_clash s E.classes) C;
          ready = D.ended.ready;
          few = few;
          traced = D.traced;
          sound = D.sound;
          exact = λ d. E;
          because = record { exact = E; cycle = C };
        }
