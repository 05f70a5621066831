-- The verdict on a state, with its reason: a solution, two functor nodes that clash, or a cycle.
--   number      the number of a verdict: 0 solved, 8 clash, 9 cycle
--   Solving     the table and heights are a solution; node u's height is the height of its class
--   Clashes     the table joins two functor nodes of different labels, and what it joins stands in the closure
--   Circles     the table is the closure, and some node lies below itself
--   LeftOver    the heights are the peel's, where there is no clash: by them `solve_reach` finds a cycle
--   Decided     the verdict is that of `graph`, the trace made the table, and the verdict has its reason
--   Resumable   the table and trace of a state that was decided without a clash: what an offered equation goes on from
use Rattle.std.specs.Prelude.{◌≡◌, List, ℕ, ◌≤◌, length, Option, Some}
use Rattle.std.specs.Option.{unwrap_or}
use Rattle.graph.specs.State.{State, functor, IsNode, NodeAt, EqualLabels, Proper}
use Rattle.graph.specs.Closure as closure
use Rattle.graph.specs.Solution.{Solution}
use Rattle.graph.specs.Verdict as graph
use Rattle.solve_classes.specs.Table.{class}
use Rattle.solve_classes.specs.Exact.{Sound, Exact}
use Rattle.solve_trace.specs.Trace.{Traced}
use Rattle.solve_trace.specs.declared.Entry.{Entry}
use Rattle.solve_heights.specs.Peel.{height_at, Peeled}
use Rattle.solve_heights.specs.declared.Heights.{Heights}
use Rattle.store.specs.declared.Terms.{Terms}
use Rattle.solve_trace.specs.Steps.{TraceFits}
use Rattle.solve.specs.declared.Finding.{Finding}
use Rattle.solve.specs.declared.Finding.TheVariants.{Solved, Clash, Cycle}
use Rattle.solve.specs.declared.SolveResult.{SolveResult}

abbrev pub number : Finding → ℕ
number Solved = 0
number (Clash u v) = 8
number Cycle = 9

pub record Solving (s : State) (t : List ℕ) (h : List (Option ℕ)) : Type 0 where
  pub exact : Exact s t
  pub solution : Solution s
  pub classes : (u : ℕ) → solution.classes.class u ≡ class t u
  pub heights : (u : ℕ) → solution.height u ≡ unwrap_or (height_at h (class t u)) 0
  pub went : (u : ℕ) → IsNode s u → height_at h (class t u) ≡ Some (solution.height u)

pub record Clashes (s : State) (t : List ℕ) (u v : ℕ) : Type 0 where
  pub f : ℕ
  pub g : ℕ
  pub cs : List ℕ
  pub ds : List ℕ
  pub at_u : NodeAt s u (functor f cs)
  pub at_v : NodeAt s v (functor g ds)
  pub differ : EqualLabels f g → ⊥
  pub joined : class t u ≡ class t v

pub record Circles (s : State) (t : List ℕ) : Type 0 where
  pub exact : Exact s t
  pub cycle : closure.Cycle s

abbrev pub Because : State → List ℕ → List (Option ℕ) → Finding → Type 0
Because s t h Solved = Solving s t h
Because s t h (Clash u v) = Clashes s t u v
Because s t h Cycle = Circles s t

abbrev pub LeftOver : Terms → List ℕ → Heights → Finding → Type 0
LeftOver g t p Solved = Peeled g t p
LeftOver g t p (Clash u v) = Unit {0}
LeftOver g t p Cycle = Peeled g t p

pub record Decided (s : State) (r : SolveResult) (es : List Entry) : Type 0 where
  pub proper : Proper s
  pub verdict : graph.Verdict s (number r.verdict)
  pub ready : TraceFits r.table es
  pub few : length es ≤ 63
  pub traced : Traced s es r.table
  pub sound : Sound s r.table
  pub exact : (number r.verdict ≡ 8 → ⊥) → Exact s r.table
  pub because : Because s r.table r.heights.height r.verdict

pub record Resumable (s : State) (t : List ℕ) (es : List Entry) : Type 0 where
  pub proper : Proper s
  pub ready : TraceFits t es
  pub traced : Traced s es t
  pub exact : Exact s t
