-- The entries of a trace that a goal needs: entries are dropped while the rest still make a trace that joins what the goal wants joined.
--   Joined    the entries join u and v, and each pair
--   Rebuilt   the table that the entries make, where they make one
--   Extended  the table that some entries make on from another
--   Among     each of the entries is one of another list
--   Trimmed   what is left joins all that the whole joined
-- A promise is made for every state that the arrays describe.
use Rattle.std.specs.Prelude.{◌≡◌, List, ◌++◌, ℕ, ◌≤◌, ◌<◌, length}
use Rattle.std.specs.List.{All, Contains}
use Rattle.graph.specs.State.{State}
use Rattle.store.specs.declared.Terms.{Terms}
use Rattle.store.specs.declared.Equations.{Equations}
use Rattle.solve_classes.specs.Table.{class, Table}
use Rattle.solve_trace.specs.declared.Entry.{Entry}
use Rattle.solve_trace.specs.Trace.{Traced}
use Rattle.write_needed.specs.Entries.{EndsAndChildren, AllReasonsHold}

-- each pair is two nodes
abbrev pub NodePairs : List (ℕ × ℕ) → Type 0
NodePairs ps = All (λ p. (p.0 < 64) × (p.1 < 64)) ps

-- each pair is in one class
abbrev pub PairsTogether : List ℕ → List (ℕ × ℕ) → Type 0
PairsTogether t ps = All (λ p. class t p.0 ≡ class t p.1) ps

pub record Joined (s : State) (es : List Entry) (u v : ℕ) (ps : List (ℕ × ℕ)) : Type 0 where
  pub table : List ℕ
  pub traced : Traced s es table
  pub joined : class table u ≡ class table v
  pub pairs : PairsTogether table ps

pub record Rebuilt (g : Terms) (q : Equations) (es : List Entry) (t : List ℕ) : Type 0 where
  pub table : Table t
  pub traced : (s : State) → EndsAndChildren g q s → AllReasonsHold s es → Traced s es t

-- r is what the entries es make on from t, whichever entries made t
pub record Extended (g : Terms) (q : Equations) (t : List ℕ) (es : List Entry) (r : List ℕ) : Type 0 where
  pub table : Table r
  pub on : (ds : List Entry) → Rebuilt g q ds t → Rebuilt g q (ds ++ es) r

-- where each entry has its reason, they join all
abbrev pub Rejoins : Terms → Equations → List Entry → ℕ → ℕ → List (ℕ × ℕ) → Type 0
Rejoins g q es u v ps = (s : State) → EndsAndChildren g q s → AllReasonsHold s es → Joined s es u v ps

abbrev pub Among : List Entry → List Entry → Type 0
Among few es = All (Contains es) few

pub record Trimmed (g : Terms) (q : Equations) (es : List Entry) (u v : ℕ) (ps : List (ℕ × ℕ)) (few : List Entry) : Type 0 where
  pub less : length few ≤ length es
  pub among : Among few es
  pub joins : (s : State) → EndsAndChildren g q s → Joined s es u v ps → Joined s few u v ps
