-- Entries of a trace, as nodes and equations in arrays have them.
--   left_end, right_end   the node that an entry joins on one side
--   InRange           an entry's numbers are places of the arrays
--   Limited           a state within the limits, and proper
--   EndsAndChildren   its equations have the ends that the arrays have, its nodes the children
--   ReasonHolds       an entry's reason on every table that has its two nodes in one class
use Rattle.std.specs.Prelude.{◌≡◌, ⊤, List, ℕ, ◌≤◌, ◌<◌, length, get_or}
use Rattle.std.specs.List.{All}
use Rattle.std.proofs.Math.Option.{some}
use Rattle.std.proofs.Math.ListN.{get_elem?}
use Rattle.graph.specs.Limits.{node_limit, child_limit, equation_limit}
use Rattle.graph.specs.State.{functor, Equation, State, NodeAt, ChildAt, Proper}
use Rattle.store.specs.Views.{child_at}
use Rattle.store.specs.declared.Terms.{Terms}
use Rattle.store.specs.declared.Equations.{Equations}
use Rattle.solve_classes.specs.Table.{class}
use Rattle.solve_trace.specs.declared.Entry.{Entry}
use Rattle.solve_trace.specs.declared.Entry.TheVariants as entry
use Rattle.solve_trace.specs.Trace.{Reason}

-- an equation's end, or the child of a node at the entry's place
abbrev pub left_end : Terms → Equations → Entry → ℕ
left_end g q (entry.Equation k) = get_or q.left k 0
left_end g q (entry.Children u v j) = child_at g u j

abbrev pub right_end : Terms → Equations → Entry → ℕ
right_end g q (entry.Equation k) = get_or q.right k 0
right_end g q (entry.Children u v j) = child_at g v j

abbrev pub Placed : Entry → Type 0
Placed (entry.Equation k) = k < equation_limit
Placed (entry.Children u v j) = (u < node_limit) × ((v < node_limit) × (j < child_limit))

pub record InRange (g : Terms) (q : Equations) (e : Entry) : Type 0 where
  pub placed : Placed e
  pub lefts : left_end g q e < 64
  pub rights : right_end g q e < 64

abbrev pub AllInRange : Terms → Equations → List Entry → Type 0
AllInRange g q es = All (InRange g q) es

pub record Limited (s : State) : Type 0 where
  pub fits : length s.nodes ≤ node_limit
  pub few : length s.equations ≤ equation_limit
  pub proper : Proper s

pub record EndsAndChildren (g : Terms) (q : Equations) (s : State) : Type 0 where
  pub limited : Limited s
  pub lefts : (k : ℕ) (d : Equation) → get_elem? s.equations k ≡ some d → get_or q.left k 0 ≡ d.left
  pub rights : (k : ℕ) (d : Equation) → get_elem? s.equations k ≡ some d → get_or q.right k 0 ≡ d.right
  pub children : (p f i v : ℕ) (cs : List ℕ) → NodeAt s p (functor f cs) → ChildAt cs i v → (i < child_limit) × (child_at g p i ≡ v)

-- the nodes of an entry that has two are in one class
abbrev pub Together : List ℕ → Entry → Type 0
Together t (entry.Equation k) = ⊤
Together t (entry.Children u v j) = class t u ≡ class t v

pub record ReasonHolds (s : State) (e : Entry) : Type 0 where
  pub left : ℕ
  pub right : ℕ
  pub reason : (t : List ℕ) → Together t e → Reason s t e left right

abbrev pub AllReasonsHold : State → List Entry → Type 0
AllReasonsHold s es = All (ReasonHolds s) es
