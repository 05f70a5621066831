-- The search downward from node u, on the table and the nodes alone.
--   Source         steps down from node p count: p is in u's class or in one that was reached
--   Step           how class d was reached: by the child of a functor node at a place, counted from 1
--   Explored       the children of node p lie in classes that were reached, where p is a source
--   Reached        what the search gives: Ways, a Step for each reached class, every node explored
--   Reaching       the search between two visits of nodes
--   Expanding      a visit of a node, some of its children looked at
--   LeadsBack      the search from a node led back to its class
--   MayLeadBack    it did, or the node isn't below itself
--   MayCircle      a node was found from which it did, or no node is below itself
use Rattle.std.specs.Prelude.{◌≡◌, ◌⊎◌, List, ℕ, suc, ◌≤◌, ◌<◌, length, Option, Some, None}
use Rattle.std.specs.Option.{IsSome}
use Rattle.graph.specs.State.{State}
use Rattle.graph.specs.Closure.{Below, Cycle}
use Rattle.store.specs.Views.{arity_at, child_at}
use Rattle.store.specs.declared.Terms.{Terms}
use Rattle.solve_classes.specs.Table.{class, Table}
use Rattle.solve_classes.specs.Exact.{Exact}
use Rattle.base.specs.Sum.{sum_to}
use Rattle.solve_trace.specs.Nodes.{Nodes, IsFunctor, Formed}
use Rattle.solve_heights.specs.Nodes.{under}
use Rattle.solve_reach.specs.Reach.{down_at, Reaches, Ways}
use Rattle.solve_reach.specs.declared.Circle.{Circle}
use Rattle.solve_reach.specs.declared.Down.{Down}
use Rattle.solve_reach.specs.declared.Search.{Search}
use Rattle.solve_reach.specs.declared.Searcher.{Searcher}

abbrev pub Source : List ℕ → Search → ℕ → ℕ → Type 0
Source t r u p = (class t p ≡ class t u) ⊎ Reaches t r p

pub record Step (g : Terms) (t : List ℕ) (d : ℕ) (x : Down) : Type 0 where
  pub functor : IsFunctor g x.parent
  pub index : ℕ
  pub within : index < arity_at g x.parent
  pub place : x.place ≡ suc index
  pub child : x.into ≡ child_at g x.parent index
  pub in_class_lem : class t x.into ≡ d

abbrev pub StepsDown : Terms → List ℕ → Search → Type 0
StepsDown g t r = (d : ℕ) (x : Down) → d < 64 → down_at r d ≡ Some x → Step g t d x

abbrev pub Explored : Terms → List ℕ → Search → ℕ → ℕ → Type 0
Explored g t r u p = IsFunctor g p → Source t r u p → (j : ℕ) → j < arity_at g p → IsSome (down_at r (under g t p j))

pub record Reached (g : Terms) (t : List ℕ) (r : Search) (u : ℕ) : Type 0 where
  pub ways : Ways t r u
  pub steps : StepsDown g t r
  pub closed : (p : ℕ) → Explored g t r u p

-- ---- the search at work

-- 1 for a step
abbrev pub came : Option Down → ℕ
came None = 0
came (Some x) = 1

-- 1 where class d was reached
abbrev pub reached_at : Search → ℕ → ℕ
reached_at r d = came (down_at r d)

pub record Reaching (g : Terms) (t : List ℕ) (w : Searcher) : Type 0 where
  pub table : Table t
  pub formed : Formed g
  pub size : length w.search.reached ≡ 64
  pub start : w.start < g.count
  pub ways : Ways t w.search w.start
  pub steps : StepsDown g t w.search
  pub high : (d : ℕ) (x : Down) → d < 64 → down_at w.search d ≡ Some x → x.level ≤ w.count
  pub count : w.count ≡ sum_to (reached_at w.search) 64

-- the reached classes get more
pub record Grown (w next : Searcher) : Type 0 where
  pub start : next.start ≡ w.start
  pub risen : w.count ≤ next.count
  pub same : next.count ≡ w.count → next.search ≡ w.search
  pub kept : (d : ℕ) → IsSome (down_at w.search d) → IsSome (down_at next.search d)

-- the first j children of node p, a source, lie in classes that were reached
pub record Expanding (g : Terms) (t : List ℕ) (w : Searcher) (p j : ℕ) (next : Searcher) : Type 0 where
  pub reaching : Reaching g t next
  pub grown : Grown w next
  pub children : (i : ℕ) → i < j → IsSome (down_at next.search (under g t p i))

-- ---- cycles

-- the search from u led back to its class
pub record LeadsBack (g : Terms) (t : List ℕ) (u : ℕ) (r : Search) : Type 0 where
  pub known : u < g.count
  pub reached : Reached g t r u
  pub back : Reaches t r u

-- it did, or functor node u doesn't lie below itself
abbrev pub MayLeadBack : Terms → List ℕ → ℕ → Option Search → Type 0
MayLeadBack g t u (Some r) = LeadsBack g t u r
MayLeadBack g t u None = (s : State) → Nodes g s → Exact s t → IsFunctor g u → Below s u u → ⊥

abbrev pub MayCircle : Terms → List ℕ → Option Circle → Type 0
MayCircle g t (Some c) = LeadsBack g t c.node c.search
MayCircle g t None = (s : State) → Nodes g s → Exact s t → Cycle s → ⊥
