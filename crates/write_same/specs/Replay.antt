-- A trace replayed as proof lines, where p is the pen before and r the pen after.
--   Names           a state's equations, in order, have these names, all different
--   Describes       its equations and nodes are those of the arrays: what the writer reads of a state
--   ReasonWritten   the lines of an entry's reason
--   EntryReplayed   the lines of one entry
--   Made            the table of a part of the trace
--   Retraced        the lines of the entries
--   Prepared        the lines of the entries that a goal needs
--   OneClass        the entries join two nodes
--   Explained       lines that end in u same v
-- A promise is made for every state that the arrays describe.
use Rattle.std.specs.Prelude.{◌≡◌, List, ℕ, ◌+◌, ◌*◌, ◌≤◌, length, get_or, take}
use Rattle.std.proofs.Math.Option.{some}
use Rattle.std.proofs.Math.ListN.{get_elem?}
use Rattle.graph.specs.State.{Equation, State, IsNode}
use Rattle.graph.specs.Lines.{Claim, same, by_equation}
use Rattle.store.specs.declared.Terms.{Terms}
use Rattle.store.specs.declared.Equations.{Equations}
use Rattle.solve_classes.specs.Table.{class, Table, merged_class, class_count}
use Rattle.base.specs.Sum.{sum_to}
use Rattle.solve_trace.specs.declared.Entry.{Entry}
use Rattle.solve_trace.specs.Trace.{Reason, Traced}
use Rattle.write_needed.specs.Entries.{Limited, EndsAndChildren}
use Rattle.write_needed.specs.Trim.{PairsTogether, Joined}
use Rattle.proof_lines.specs.Proof.{Kept, Concludes}
use Rattle.write_runs.specs.declared.Pen.{Pen}
use Rattle.write_runs.specs.Pens.{Continues}
use Rattle.write_runs.specs.Written.{LinesClaim, More}
use Rattle.write_runs.specs.Runs.{LineForEach, Rooted}

pub record Names (nodes : ℕ) (q : Equations) (s : State) : Type 0 where
  pub limited : Limited s
  pub count : length s.nodes ≡ nodes
  pub named : (k : ℕ) (d : Equation) → get_elem? s.equations k ≡ some d → by_equation s.equations (get_or q.name k 0) ≡ some (same d.left d.right)

pub record Describes (g : Terms) (q : Equations) (s : State) : Type 0 where
  pub names : Names g.count q s
  pub ends : EndsAndChildren g q s

-- where the entry e is a reason to join a and b, line l claims a same b
pub record ReasonWritten (q : Equations) (p : Pen) (e : Entry) (r : Pen) (l : ℕ) : Type 0 where
  pub continues : Continues p r
  pub to : r.to ≡ p.to
  pub high : r.lines ≤ p.lines + 3
  pub more : (s : State) (cs : List Claim) (t : List ℕ) (a b : ℕ) → Names p.nodes q s → Reason s t e a b → LinesClaim s p cs → LineForEach s cs (class t) p.to
      → More s cs r l (same a b)

-- the entry e joins a and b
pub record EntryReplayed (q : Equations) (p : Pen) (t : List ℕ) (e : Entry) (a b : ℕ) (r : Pen) : Type 0 where
  pub continues : Continues p r
  pub high : r.lines ≤ p.lines + 70
  pub tight : r.lines + class_count t ≤ p.lines + 71
  pub more : (s : State) → Names p.nodes q s → Reason s t e a b → Rooted s (class t) p → Rooted s (merged_class (class t) a b) r

-- from a line for each node to itself on: an entry with k before it takes at most k + 7 lines
pub record Retraced (g : Terms) (q : Equations) (es : List Entry) (p r : Pen) : Type 0 where
  pub continues : Continues p r
  pub high : r.lines ≤ p.lines + 7 * length es + sum_to (λ i. i) (length es)
  pub more : (s : State) (t : List ℕ) → Describes g q s → Traced s es t → Rooted s (λ x. x) p → Rooted s (class t) r

-- t is the table of the first k entries
pub record Made (g : Terms) (q : Equations) (es : List Entry) (k : ℕ) (t : List ℕ) : Type 0 where
  pub table : Table t
  pub traced : (s : State) (u : List ℕ) → EndsAndChildren g q s → Traced s es u → Traced s (take k es) t

pub record Retracing (g : Terms) (q : Equations) (es : List Entry) (p : Pen) (k : ℕ) (t : List ℕ) (r : Pen) : Type 0 where
  pub continues : Continues p r
  pub high : r.lines ≤ p.lines + 7 * k + sum_to (λ i. i) k
  pub classes : 64 ≤ class_count t + k
  pub made : Made g q es k t
  pub more : (s : State) (u : List ℕ) → Describes g q s → Traced s es u → Rooted s (λ x. x) p → Rooted s (class t) r

-- a table, with the lines for it, that joins u and v, and each pair
pub record LinesReady (s : State) (u v : ℕ) (ps : List (ℕ × ℕ)) (r : Pen) : Type 0 where
  pub table : List ℕ
  pub lines : Rooted s (class table) r
  pub joined : class table u ≡ class table v
  pub pairs : PairsTogether table ps

-- where the entries join all, there is one
pub record Prepared (g : Terms) (q : Equations) (es : List Entry) (buf : List ℕ) (u v : ℕ) (ps : List (ℕ × ℕ)) (r : Pen) : Type 0 where
  pub nodes : r.nodes ≡ g.count
  pub high : r.lines ≤ g.count + 2394
  pub kept : Kept r.lines buf r.buf.now
  pub ready : (s : State) → Describes g q s → Joined s es u v ps → LinesReady s u v ps r

-- the entries join u and v
pub record OneClass (s : State) (es : List Entry) (u v : ℕ) : Type 0 where
  pub table : List ℕ
  pub traced : Traced s es table
  pub joined : class table u ≡ class table v

pub record Explained (g : Terms) (q : Equations) (es : List Entry) (buf : List ℕ) (u v : ℕ) (out : List ℕ) (m : ℕ) : Type 0 where
  pub some_lines : 1 ≤ m
  pub high : m ≤ g.count + 2396
  pub kept : Kept m buf out
  pub shown : (s : State) → Describes g q s → OneClass s es u v → IsNode s u → IsNode s v → Concludes s (same u v) m out
