-- The solver's verdict is right both ways: clash just where the closure clashes, cycle just where it doesn't clash and has a cycle,
-- solved just where a solution exists. And a decided state serves an equation offered.
use Rattle.std.proofs.Common.{◌≡◌, refl, ◌↔◌, List, ℕ, ◌≤◌, ◌<◌, arith, length, Option}
use Rattle.graph.specs.State.{Equation, State}
use Rattle.graph.specs.Closure.{Clash, Cycle, equation}
use Rattle.graph.specs.Solution.{Solution}
use Rattle.graph.specs.Verdict.{clashes, cycles, solvable}
use Rattle.graph.specs.Verdict as graph
use Rattle.graph.proofs.SolutionLaws.{verdict_unique, solution_verdict}
use Rattle.store.specs.declared.Terms.{Terms}
use Rattle.solve_trace.specs.declared.Entry.{Entry}
use Rattle.solve_trace.specs.Nodes.{Nodes, Formed}
use Rattle.solve_closure.specs.Settled.{OfferFits, Before}
use Rattle.solve.specs.Decided.{number, Because, Decided, Resumable}
use Rattle.solve.specs.declared.Finding.{Finding}
use Rattle.solve.specs.declared.Finding.TheVariants as v
use Rattle.solve.specs.declared.SolveResult.{SolveResult}

-- what graph's verdict says at each number
module _ {s : State} where
  says_clash : {k : ℕ} → graph.Verdict s k → k ≡ 8 → Clash s
  says_clash (clashes c) e = c
  says_clash (cycles d c) e = absurd (omega arith)
  says_clash (solvable d c) e = absurd (omega arith)

  says_cycle : {k : ℕ} → graph.Verdict s k → k ≡ 9 → (Clash s → ⊥) × Cycle s
  says_cycle (clashes c) e = absurd (omega arith)
  says_cycle (cycles d c) e = (d, c)
  says_cycle (solvable d c) e = absurd (omega arith)

  says_solved : (t : List ℕ) (h : List (Option ℕ)) (w : Finding) → number w ≡ 0 → Because s t h w → Solution s
  says_solved t h v.Solved e b = b.solution
  says_solved t h (v.Clash x y) e b = absurd (omega arith)
  says_solved t h v.Cycle e b = absurd (omega arith)

module _ {s : State} {r : SolveResult} {es : List Entry} (D : Decided s r es) where
  pub clash_just : (number r.verdict ≡ 8) ↔ Clash s
  clash_just = (says_clash D.verdict, λ c. verdict_unique s D.verdict (clashes c))

  pub cycle_just : (number r.verdict ≡ 9) ↔ ((Clash s → ⊥) × Cycle s)
  cycle_just = (says_cycle D.verdict, λ c. verdict_unique s D.verdict (cycles c.0 c.1))

  pub solved_just : (number r.verdict ≡ 0) ↔ Solution s
  solved_just = (λ e. says_solved r.table r.heights.height r.verdict e D.because, λ S. verdict_unique s D.verdict (solution_verdict s D.proper S))

  -- what was decided without a clash is what an offered equation goes on from
  pub going : (number r.verdict ≡ 8 → ⊥) → Resumable s r.table es
  going d = record { proper = D.proper; ready = D.ready; traced = D.traced; exact = D.exact d }

module _ {s : State} {t : List ℕ} {es : List Entry} (G : Resumable s t es) where
  pub offering : {g : Terms} {m x y : ℕ} → Formed g → m ≤ 256 → (x < g.count) × (y < g.count) → OfferFits g m x y t es
  offering F most k = record { formed = F; ready = G.ready; most = most; left = k.0; right = k.1 }

  pub before : {g : Terms} {m : ℕ} (e : Equation) → Nodes g s → length s.equations ≡ m → Before g s e m e.left e.right t es
  before e N count =
      record {
        nodes = N;
        proper = G.proper;
        count = count;
        lefts = refl;
        rights = refl;
        traced = G.traced;
        equated = λ q held. G.exact.has (equation held);
      }
