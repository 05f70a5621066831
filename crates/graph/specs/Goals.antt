-- What a proof may be asked to show, and the checker's judgement of a list of lines.
--   Goal      document 01's "thing to be shown": a clash, a cycle, same(u, v), below(u, v)
--   Meaning   what the goal says of the closure
--   shows     a claim shows a goal
--   judge     the checker's definition: passed, refusal 12 at the first line that breaks its rule, or refusal 13
--   Cites     each equation line names an equation of the state
use Rattle.std.specs.Prelude.{◌≡◌, Bool, true, false, not, ◌&&◌, cond, List, [], ◌∷◌, ℕ, eqb}
use Rattle.std.proofs.Math.Option.{Option, none, some}
use Rattle.std.proofs.Math.ListN.{get_elem?}
use Rattle.graph.specs.State.{Node, State, name_held}
use Rattle.graph.specs.Closure.{Same, Below, Clash, Cycle}
use Rattle.graph.specs.Lines.{Line, Claim, same, below, Functor, functor_at, equal_labels, LineClaims, all, broken, line_claims}

pub data Goal : Type 0 where
  clash_goal : Goal
  cycle_goal : Goal
  same_goal : ℕ → ℕ → Goal
  below_goal : ℕ → ℕ → Goal

abbrev pub Meaning : State → Goal → Type 0
Meaning s clash_goal = Clash s
Meaning s cycle_goal = Cycle s
Meaning s (same_goal u v) = Same s u v
Meaning s (below_goal u v) = Below s u v

-- two functor nodes of different labels
abbrev pub labels_differ : Option Functor → Option Functor → Bool
labels_differ none o = false
labels_differ (some k) none = false
labels_differ (some k) (some m) = not (equal_labels k m)

abbrev pub shows : List Node → Goal → Claim → Bool
shows ns clash_goal (same u v) = labels_differ (functor_at ns u) (functor_at ns v)
shows ns clash_goal (below u v) = false
shows ns cycle_goal (same u v) = false
shows ns cycle_goal (below u v) = eqb u v
shows ns (same_goal x y) (same u v) = eqb x u && eqb y v
shows ns (same_goal x y) (below u v) = false
shows ns (below_goal x y) (same u v) = false
shows ns (below_goal x y) (below u v) = eqb x u && eqb y v

-- how a walk over lines ends: in the last one's claim, at the first that breaks its rule, or without a line
pub data Ended : Type 0 where
  ends : Claim → Ended
  breaks : ℕ → Ended
  empty : Ended

abbrev pub last_of : List Claim → Ended
last_of [] = empty
last_of (c ∷ []) = ends c
last_of (c ∷ (d ∷ ds)) = last_of (d ∷ ds)

abbrev pub ended : LineClaims → Ended
ended (all cs) = last_of cs
ended (broken k) = breaks k

-- a refusal has its number in document 01; 12 has a case of its own, with the line
pub data Judgement : Type 0 where
  passed : Judgement
  refused : ℕ → Judgement
  broken_line : ℕ → Judgement

abbrev pub judge_end : List Node → Goal → Ended → Judgement
judge_end ns g (ends c) = cond (shows ns g c) passed (refused 13)
judge_end ns g (breaks k) = broken_line k
judge_end ns g empty = refused 13

abbrev pub judge : State → Goal → List Line → Judgement
judge s g ls = judge_end s.nodes g (ended (line_claims s [] ls))

-- the checker passes the lines for the goal
abbrev pub Passes : State → Goal → List Line → Type 0
Passes s g ls = judge s g ls ≡ passed

abbrev pub Cites : State → List Line → Type 0
Cites s ls = (i : ℕ) (l : Line) → get_elem? ls i ≡ some l → l.rule ≡ 1 → name_held l.first s.equations ≡ true
