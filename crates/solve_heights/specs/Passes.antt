-- The peel at work: passes over the nodes, upward and downward in turn. A node is released once its children's classes went, and its
-- class goes with the last of its nodes.
--   fresh_peeler  the peel before the nodes are counted
--   Peeling   the peel between two visits
--   Counted   the nodes of each class, and the classes, counted
--   Released  what a pass in which no class goes leaves each node with: it is released, or stuck
use Rattle.std.specs.Prelude.{◌≡◌, Bool, true, false, cond, List, ℕ, ◌+◌, ◌<◌, eqb, length, replicate, get_or, Some, None}
use Rattle.store.specs.declared.Terms.{Terms}
use Rattle.solve_classes.specs.Table.{class, member_at, root, Table}
use Rattle.base.specs.Sum.{sum_to}
use Rattle.solve_trace.specs.Nodes.{Formed}
use Rattle.solve_heights.specs.Nodes.{IsClass}
use Rattle.solve_heights.specs.Peel.{height_at, left, classes, Stuck, Lower}
use Rattle.solve_heights.specs.declared.Peeler.{Peeler}

-- node u is not released
abbrev pub pending_at : List Bool → ℕ → Bool
pending_at p u = get_or p u false

-- what node u adds to those that class c waits for
abbrev pub wait_at : List ℕ → List Bool → ℕ → ℕ → ℕ
wait_at t p c u = cond (eqb (class t u) c) (cond (pending_at p u) 1 0) 0

abbrev pub fresh_peeler : Peeler
fresh_peeler = record { went = 0; total = 0; waiting = replicate 64 0; pending = replicate 64 true; height = replicate 64 None }

pub record Peeling (g : Terms) (t : List ℕ) (p : Peeler) : Type 0 where
  pub table : Table t
  pub formed : Formed g
  pub height_size : length p.height ≡ 64
  pub pending_size : length p.pending ≡ 64
  pub waiting_size : length p.waiting ≡ 64
  pub waits : (c : ℕ) → c < 64 → get_or p.waiting c 0 ≡ sum_to (wait_at t p.pending c) g.count
  pub left_waits : (c : ℕ) → IsClass g t c → height_at p.height c ≡ None → 0 < get_or p.waiting c 0
  pub gone_waits : (c a : ℕ) → c < 64 → height_at p.height c ≡ Some a → get_or p.waiting c 0 ≡ 0
  pub released : (u : ℕ) → pending_at p.pending u ≡ false → Stuck g t p.height u → ⊥
  pub low : (c a : ℕ) → c < 64 → height_at p.height c ≡ Some a → a < p.went
  pub apart : (c d a : ℕ) → c < 64 → d < 64 → height_at p.height c ≡ Some a → height_at p.height d ≡ Some a → c ≡ d
  pub unused : (c : ℕ) → c < 64 → (IsClass g t c → ⊥) → height_at p.height c ≡ None
  pub lower : Lower g t p.height
  pub total : p.total ≡ classes g t
  pub count : p.went + left g t p.height ≡ p.total

-- the first i nodes are counted: w has how many nodes each class has, n is how many classes there are
pub record Counted (t : List ℕ) (i : ℕ) (w : List ℕ) (n : ℕ) : Type 0 where
  pub size : length w ≡ 64
  pub members : (c : ℕ) → c < 64 → get_or w c 0 ≡ sum_to (member_at t c) i
  pub classes : n ≡ sum_to (root t) i

-- node u is released, or it is stuck
abbrev pub Released : Terms → List ℕ → Peeler → ℕ → Type 0
Released g t p u = pending_at p.pending u ≡ true → Stuck g t p.height u
