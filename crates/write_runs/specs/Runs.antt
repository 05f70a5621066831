-- What each run of lines adds to those of a pen p, where q is the pen after it and line r its last.
--   LineForEach, Rooted   for each node x a line that claims x same c x
--   Linked         p same q, from p same x and q same x
--   Bridged        x same y, from a same b, a same x and b same y; BridgedBack: y same x
--   Started        x same x, for each node
--   Absorbed       x same keep, for each node x of class gone
--   Rewired        the classes of a and b made one, from a same b
-- A promise is made for every state s and all claims cs that the lines so far have: neither is a value of the program.
use Rattle.std.specs.Prelude.{◌≡◌, cond, List, ℕ, ◌+◌, ◌≤◌, ◌<◌, length, get_or, eqb}
use Rattle.graph.specs.State.{State, IsNode}
use Rattle.graph.specs.Lines.{Claim, same}
use Rattle.solve_classes.specs.Table.{class, member_at, merged_class, class_count}
use Rattle.base.specs.Sum.{sum_to}
use Rattle.proof_lines.specs.Proof.{Kept}
use Rattle.write_runs.specs.declared.Pen.{Pen}
use Rattle.write_runs.specs.Pens.{Continues}
use Rattle.write_runs.specs.Written.{ClaimAt, LinesClaim, More}

-- for each node x a line that claims x same c x
abbrev pub LineForEach : State → List Claim → (ℕ → ℕ) → List ℕ → Type 0
LineForEach s cs c to = (x : ℕ) → IsNode s x → ClaimAt cs (get_or to x 0) (same x (c x))

pub record Rooted (s : State) (c : ℕ → ℕ) (p : Pen) : Type 0 where
  pub claims : List Claim
  pub written : LinesClaim s p claims
  pub number : LineForEach s claims c p.to

-- lines i and j, which claim a same x and b same x, give a same b
pub record Linked (p : Pen) (i j : ℕ) (q : Pen) (r : ℕ) : Type 0 where
  pub continues : Continues p q
  pub to : q.to ≡ p.to
  pub count : q.lines ≡ p.lines + 2
  pub last : q.lines ≡ r + 1
  pub more : (s : State) (cs : List Claim) (a b x : ℕ) → LinesClaim s p cs
      → ClaimAt cs i (same a x) → ClaimAt cs j (same b x) → More s cs q r (same a b)

-- lines l, i and j, which claim a same b, a same x and b same y, give x same y
pub record Bridged (p : Pen) (l i j : ℕ) (q : Pen) (r : ℕ) : Type 0 where
  pub continues : Continues p q
  pub to : q.to ≡ p.to
  pub count : q.lines ≡ p.lines + 3
  pub last : q.lines ≡ r + 1
  pub more : (s : State) (cs : List Claim) (a b x y : ℕ) → LinesClaim s p cs
      → ClaimAt cs l (same a b) → ClaimAt cs i (same a x) → ClaimAt cs j (same b y) → More s cs q r (same x y)

-- the same, with y same x
pub record BridgedBack (p : Pen) (l i j : ℕ) (q : Pen) (r : ℕ) : Type 0 where
  pub continues : Continues p q
  pub to : q.to ≡ p.to
  pub count : q.lines ≡ p.lines + 3
  pub last : q.lines ≡ r + 1
  pub more : (s : State) (cs : List Claim) (a b x y : ℕ) → LinesClaim s p cs
      → ClaimAt cs l (same a b) → ClaimAt cs i (same a x) → ClaimAt cs j (same b y) → More s cs q r (same y x)

-- each of the first x of n nodes has a line, to itself, and there are no other lines
pub record Started (buf : List ℕ) (n x : ℕ) (q : Pen) : Type 0 where
  pub nodes : q.nodes ≡ n
  pub count : q.lines ≡ x
  pub kept : Kept x buf q.buf.now
  pub more : (s : State) → x ≤ length s.nodes → (cs : List Claim) × (LinesClaim s q cs × ((i : ℕ) → i < x → ClaimAt cs (get_or q.to i 0) (same i i)))

-- the first x nodes are done: those of class gone have a line to keep, by line l, which claims gone same keep
pub record Absorbing (s : State) (c : ℕ → ℕ) (keep gone l x : ℕ) (q : Pen) : Type 0 where
  pub claims : List Claim
  pub written : LinesClaim s q claims
  pub bridge : ClaimAt claims l (same gone keep)
  pub done : (i : ℕ) → i < x → IsNode s i → ClaimAt claims (get_or q.to i 0) (same i (cond (eqb (c i) gone) keep (c i)))
  pub rest : (i : ℕ) → x ≤ i → IsNode s i → ClaimAt claims (get_or q.to i 0) (same i (c i))

pub record Absorbed (p : Pen) (t : List ℕ) (keep gone l x : ℕ) (q : Pen) : Type 0 where
  pub continues : Continues p q
  pub high : q.lines ≤ p.lines + x
  pub tight : q.lines ≤ p.lines + sum_to (member_at t gone) x
  pub more : (s : State) (cs : List Claim) → length s.nodes ≡ p.nodes → LinesClaim s p cs → LineForEach s cs (class t) p.to
      → ClaimAt cs l (same gone keep) → Absorbing s (class t) keep gone l x q

-- line l claims a same b: their classes are made one
pub record Rewired (p : Pen) (t : List ℕ) (l a b : ℕ) (q : Pen) : Type 0 where
  pub continues : Continues p q
  pub high : q.lines ≤ p.lines + 67
  pub tight : q.lines + class_count t ≤ p.lines + 68
  pub more : (s : State) (cs : List Claim) → length s.nodes ≡ p.nodes → IsNode s a → IsNode s b → LinesClaim s p cs → LineForEach s cs (class t) p.to
      → ClaimAt cs l (same a b) → Rooted s (merged_class (class t) a b) q
