-- The trace of a class table: the merges that made it, in order, each with a reason that the table before it justifies.
--   Reason   an entry says why two nodes are joined: the equation at that place of the list, or two functor nodes of
--            one class and equal labels, and a place
--   Traced   the entries made the table, from each node alone
use Rattle.std.specs.Prelude.{◌≡◌, List, [], ◌∷◌, ◌++◌, ℕ}
use Rattle.std.proofs.Math.Option.{some}
use Rattle.std.proofs.Math.ListN.{get_elem?}
use Rattle.graph.specs.State.{functor, Equation, State, NodeAt, ChildAt, EqualLabels}
use Rattle.solve_classes.specs.Table.{class, Fresh, Merged}
use Rattle.solve_trace.specs.declared.Entry.{Entry}
use Rattle.solve_trace.specs.declared.Entry.TheVariants as entry

-- on the table t, the entry is a reason to join x and y
pub data Reason (s : State) (t : List ℕ) : Entry → ℕ → ℕ → Type 0 where
  equation : {e : Equation} (k : ℕ) → get_elem? s.equations k ≡ some e → Reason s t (entry.Equation k) e.left e.right
  down : (p q j : ℕ) {f g x y : ℕ} {cs ds : List ℕ} → class t p ≡ class t q → NodeAt s p (functor f cs) → NodeAt s q (functor g ds)
      → EqualLabels f g → ChildAt cs j x → ChildAt ds j y → Reason s t (entry.Children p q j) x y

pub data Traced (s : State) : List Entry → List ℕ → Type 0 where
  start : {t : List ℕ} → Fresh t → Traced s [] t
  merge : (es : List Entry) (e : Entry) {t r : List ℕ} {x y : ℕ} → Traced s es t → Reason s t e x y
      → (class t x ≡ class t y → ⊥) → Merged t x y r → Traced s (es ++ (e ∷ [])) r
