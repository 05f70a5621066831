-- Lines that end in u below v, along a way up from v: p is the pen before, q the pen after, and line r its last.
--   Link       the step is one of the state, its child and its low node in one class of c
--   Descended  the step's parent below its low node
--   Climbing, Climbed   the upper end of a way below v, from its lower end below v
--   Arrived    u below v, from w below v, where w is of u's class
--   Ascended   all the steps of a way, from its lower end up
--   Lowered    lines that end in u below v
--   Circled    lines that end in a node below itself
-- A promise is made for every state s and all claims cs that the lines so far have.
use Rattle.std.specs.Prelude.{◌≡◌, List, ℕ, ◌+◌, ◌*◌, ◌-◌, ◌≤◌, length, take}
use Rattle.std.specs.List.{All}
use Rattle.std.proofs.Math.Option.{some}
use Rattle.graph.specs.State.{State, IsNode}
use Rattle.graph.specs.Lines.{Claim, below, by_child}
use Rattle.store.specs.declared.Terms.{Terms}
use Rattle.store.specs.declared.Equations.{Equations}
use Rattle.solve_trace.specs.declared.Entry.{Entry}
use Rattle.solve_trace.specs.Trace.{Traced}
use Rattle.solve_reach.specs.declared.Search.{Search}
use Rattle.solve_reach.specs.Reach.{Edges}
use Rattle.proof_lines.specs.Proof.{Kept, Concludes}
use Rattle.write_runs.specs.declared.Pen.{Pen}
use Rattle.write_runs.specs.Pens.{Continues}
use Rattle.write_runs.specs.Written.{ClaimAt, LinesClaim, More}
use Rattle.write_runs.specs.Runs.{LineForEach}
use Rattle.write_same.specs.Replay.{Describes}
use Rattle.write_below.specs.declared.Rung.{Rung}
use Rattle.write_below.specs.Steps.{upper, Connected}

pub record Link (s : State) (c : ℕ → ℕ) (x : Rung) : Type 0 where
  pub low_known : IsNode s x.low
  pub parent_known : IsNode s x.down.parent
  pub child_known : IsNode s x.down.into
  pub together : c x.down.into ≡ c x.low
  pub step : by_child s.nodes x.down.parent x.down.place ≡ some (below x.down.parent x.down.into)

pub record Descended (p : Pen) (x : Rung) (q : Pen) (r : ℕ) : Type 0 where
  pub continues : Continues p q
  pub to : q.to ≡ p.to
  pub low : p.lines + 1 ≤ q.lines
  pub high : q.lines ≤ p.lines + 4
  pub last : q.lines ≡ r + 1
  pub more : (s : State) (cs : List Claim) (c : ℕ → ℕ) → LinesClaim s p cs → LineForEach s cs c p.to → Link s c x → More s cs q r (below x.down.parent x.low)

-- line l claims w below v, where w is the lower end of the steps; it is the last line, or line r is
pub record Climbed (p : Pen) (xs : List Rung) (l : ℕ) (q : Pen) (r : ℕ) : Type 0 where
  pub continues : Continues p q
  pub to : q.to ≡ p.to
  pub high : q.lines ≤ p.lines + 5 * length xs
  pub last : p.lines ≡ l + 1 → q.lines ≡ r + 1
  pub more : (s : State) (cs : List Claim) (c : ℕ → ℕ) (w v : ℕ) → LinesClaim s p cs → LineForEach s cs c p.to → Connected w xs → All (Link s c) xs
      → ClaimAt cs l (below w v) → More s cs q r (below (upper w xs) v)

-- the same of the first i steps
pub record Climbing (p : Pen) (xs : List Rung) (l i : ℕ) (q : Pen) (r : ℕ) : Type 0 where
  pub continues : Continues p q
  pub to : q.to ≡ p.to
  pub high : q.lines ≤ p.lines + 5 * i
  pub last : p.lines ≡ l + 1 → q.lines ≡ r + 1
  pub more : (s : State) (cs : List Claim) (c : ℕ → ℕ) (w v : ℕ) → LinesClaim s p cs → LineForEach s cs c p.to → Connected w xs → All (Link s c) xs
      → ClaimAt cs l (below w v) → More s cs q r (below (upper w (take i xs)) v)

-- line l claims w below v
pub record Arrived (p : Pen) (u w l : ℕ) (q : Pen) (r : ℕ) : Type 0 where
  pub continues : Continues p q
  pub high : q.lines ≤ p.lines + 3
  pub last : p.lines ≡ l + 1 → q.lines ≡ r + 1
  pub more : (s : State) (cs : List Claim) (c : ℕ → ℕ) (v : ℕ) → LinesClaim s p cs → LineForEach s cs c p.to → IsNode s u → IsNode s w → c w ≡ c u
      → ClaimAt cs l (below w v) → More s cs q r (below u v)

pub record Ascended (p : Pen) (xs : List Rung) (u : ℕ) (q : Pen) : Type 0 where
  pub continues : Continues p q
  pub low : p.lines + 1 ≤ q.lines
  pub high : q.lines ≤ p.lines + 5 * length xs + 2
  pub more : (s : State) (cs : List Claim) (c : ℕ → ℕ) (v : ℕ) → LinesClaim s p cs → LineForEach s cs c p.to → Connected v xs → All (Link s c) xs
      → IsNode s u → c (upper v xs) ≡ c u → More s cs q (q.lines - 1) (below u v)

-- by the entries of a trace, and the way down from u
pub record Lowered (g : Terms) (e : Equations) (es : List Entry) (t : List ℕ) (r : Search) (buf : List ℕ) (u v : ℕ) (out : List ℕ) (m : ℕ) : Type 0 where
  pub some_lines : 1 ≤ m
  pub high : m ≤ g.count + 2716
  pub kept : Kept m buf out
  pub shown : (s : State) → Describes g e s → Traced s es t → Edges s t r → IsNode s u → IsNode s v → Concludes s (below u v) m out

pub record Circled (g : Terms) (e : Equations) (es : List Entry) (t : List ℕ) (r : Search) (buf out : List ℕ) (m : ℕ) : Type 0 where
  pub node : ℕ
  pub some_lines : 1 ≤ m
  pub high : m ≤ g.count + 2716
  pub kept : Kept m buf out
  pub shown : (s : State) → Describes g e s → Traced s es t → Edges s t r → IsNode s node × Concludes s (below node node) m out
