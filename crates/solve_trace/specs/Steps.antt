-- What each function that merges does to the table t and the trace es.
--   TraceFits     a table, and a trace with room for every merge to come
--   Joins         two nodes are joined, and the trace says why
--   Extends       a run of merges, each traced in every state of a kind
--   PairsJoined   such a run, after which the first k pairs of ends are joined
--   Gives         states in which each entry of P for a place is a reason to join what two lists have there, also after further joins
--   Places        states in which two nodes are a reason to join their children
use Rattle.std.specs.Prelude.{◌≡◌, List, [], ◌∷◌, ◌++◌, ℕ, ◌+◌, ◌≤◌, ◌<◌, length, get_or}
use Rattle.graph.specs.State.{State}
use Rattle.store.specs.Views.{arity_at, child_at}
use Rattle.store.specs.declared.Terms.{Terms}
use Rattle.solve_classes.specs.Table.{class, Table, Merged, class_count}
use Rattle.solve_trace.specs.Trace.{Reason, Traced}
use Rattle.solve_trace.specs.declared.Entry.{Entry}
use Rattle.solve_trace.specs.declared.Entry.TheVariants.{Children}

pub record TraceFits (t : List ℕ) (es : List Entry) : Type 0 where
  pub table : Table t
  pub room : length es + class_count t ≤ 64

-- they were joined already, or their classes merge and the trace has the entry e
pub data Joins (t : List ℕ) (es : List Entry) (x y : ℕ) (e : Entry) : List ℕ → List Entry → Type 0 where
  idle : class t x ≡ class t y → Joins t es x y e t es
  grown : {r : List ℕ} → (class t x ≡ class t y → ⊥) → Merged t x y r → Joins t es x y e r (es ++ (e ∷ []))

-- from (t, es) to (r, fs) by merges that are traced in every state of S
pub record Extends (S : State → Type 0) (t : List ℕ) (es : List Entry) (r : List ℕ) (fs : List Entry) : Type 0 where
  pub ready : TraceFits r fs
  pub more : length es ≤ length fs
  pub same : length fs ≡ length es → r ≡ t
  pub grows : (x y : ℕ) → x < 64 → y < 64 → class t x ≡ class t y → class r x ≡ class r y
  pub traced : (s : State) → S s → Traced s es t → Traced s fs r

pub record PairsJoined (S : State → Type 0) (left right : ℕ → ℕ) (k : ℕ) (t : List ℕ) (es : List Entry) (r : List ℕ) (fs : List Entry) : Type 0 where
  pub extends : Extends S t es r fs
  pub joined : (j : ℕ) → j < k → class r (left j) ≡ class r (right j)

abbrev pub Gives : (ℕ → Entry → Type 0) → List ℕ → List ℕ → List ℕ → State → Type 0
Gives P xs ys t s =
    (k : ℕ) (e : Entry) (r : List ℕ) → k < length xs → P k e
    → ((x y : ℕ) → x < 64 → y < 64 → class t x ≡ class t y → class r x ≡ class r y)
    → Reason s r e (get_or xs k 0) (get_or ys k 0)

-- u and v, in one class, are a reason to join their children
abbrev pub Places : Terms → ℕ → ℕ → State → Type 0
Places g u v s =
    (t : List ℕ) (j : ℕ) → class t u ≡ class t v → j < arity_at g u → Reason s t (Children u v j) (child_at g u j) (child_at g v j)
