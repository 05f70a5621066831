-- What the shape test and the solver's verdict say of a value.
use Rattle.std.specs.Prelude.{None}
use Rattle.std.proofs.Common.{◌≡◌, ◌⊎◌, ⊎_elim, refl, ap, ◌∙◌, sym, List, ℕ, arith}
use Rattle.graph.specs.Solution.{Solution}
use Rattle.store.specs.Views.{state_from}
use Rattle.store.specs.Shape.{Shape}
use Rattle.store.specs.declared.Terms.{Terms}
use Rattle.store.specs.declared.Equations.{Equations}
use Rattle.store.proofs.ViewLaws.{nodes_length}
use Rattle.solve_trace.specs.declared.Entry.{Entry}
use Rattle.solve.specs.Decided.{number, Decided}
use Rattle.solve.specs.declared.SolveResult.{SolveResult}
use Rattle.solve.specs.declared.Finding.TheVariants as finding
use Rattle.solve.proofs.VerdictLaws.{solved_just}
use Rattle.unifier_examine.specs.Examines.{Solved, Examines}
use Rattle.unifier_examine.proofs.AloneLaws.{traced_alone}

module _ (t : Terms) (e : Equations) {r : SolveResult} {trace : List Entry} (d : Decided (state_from t e) r trace) where
  pub solved : Shape t e → r.verdict ≡ finding.Solved → Solved t e r.table trace
  solved s q =
      let z : number r.verdict ≡ 0 = rw q refl in
      record {
        shape = s;
        solution = (solved_just d).0 z;
        ready = d.ready;
        traced = d.traced;
        exact = d.exact (λ x. omega arith);
        alone = rw (nodes_length t) at (traced_alone (state_from t e) d.proper (rw (nodes_length t) s.terms.few) d.traced);
      }

  -- another verdict
  pub unsolved : ((x : ℕ) × (y : ℕ) × (r.verdict ≡ finding.Clash x y)) ⊎ (r.verdict ≡ finding.Cycle) → Shape t e → Solution (state_from t e) → ⊥
  unsolved q s x =
      let z : number r.verdict ≡ 0 = (solved_just d).1 x in
      ⊎_elim
      (λ w. let n : ◌≡◌ {A = ℕ} 8 0 = sym (ap number w.2) ∙ z in omega arith)
      (λ w. let n : ◌≡◌ {A = ℕ} 9 0 = sym (ap number w) ∙ z in omega arith)
      q

-- another shape is no workspace
pub misshaped : (t : Terms) (e : Equations) (trace : List Entry) → (Shape t e → ⊥) → Examines t e trace None
misshaped t e trace bad s x = bad s
