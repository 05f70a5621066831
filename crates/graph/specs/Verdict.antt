-- The verdict of a set of equations, as document 01 numbers it: 8 where the closure clashes, 9 where it doesn't clash but has a
-- cycle, 0 where it does neither. So 8 comes before 9. `verdict_unique` of proofs/SolutionLaws says that there is just one.
use Rattle.std.specs.Prelude.{ℕ}
use Rattle.graph.specs.State.{State}
use Rattle.graph.specs.Closure.{Clash, Cycle}

pub data Verdict (s : State) : ℕ → Type 0 where
  clashes : Clash s → Verdict s 8
  cycles : (Clash s → ⊥) → Cycle s → Verdict s 9
  solvable : (Clash s → ⊥) → (Cycle s → ⊥) → Verdict s 0
