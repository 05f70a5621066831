-- Heights of classes, found by peeling: a class goes once every child of every functor node in it lies in a class that went before.
-- Its height is the number of classes that went before it; while it is left it has none.
--   height_at  the height of the class with root c, if it has one
--   classes    how many classes the known nodes have
--   left       how many of them are left
--   Lower      heights rise from child to parent
--   Stuck      a functor node with a child in a class that is left
--   Blocked    a class with such a node
--   Peeled     what the peel gives: heights that rise, and what is left is blocked by what is left
use Rattle.std.specs.Prelude.{◌≡◌, cond, List, ℕ, ◌+◌, ◌<◌, eqb, length, get_or, Option, Some, None}
use Rattle.store.specs.Views.{arity_at}
use Rattle.store.specs.declared.Terms.{Terms}
use Rattle.solve_classes.specs.Table.{class, root}
use Rattle.base.specs.Sum.{sum_to}
use Rattle.solve_trace.specs.Nodes.{IsFunctor}
use Rattle.solve_heights.specs.Nodes.{IsClass, under}
use Rattle.solve_heights.specs.declared.Heights.{Heights}

-- the height of the class with root c
abbrev pub height_at : List (Option ℕ) → ℕ → Option ℕ
height_at h c = get_or h c None

-- 1 for none
abbrev pub stays : Option ℕ → ℕ
stays None = 1
stays (Some a) = 0

-- 1 where c is a class that is left
abbrev pub left_at : List ℕ → List (Option ℕ) → ℕ → ℕ
left_at t h c = cond (eqb (class t c) c) (stays (height_at h c)) 0

abbrev pub left : Terms → List ℕ → List (Option ℕ) → ℕ
left g t h = sum_to (left_at t h) g.count

-- how many classes the known nodes have
abbrev pub classes : Terms → List ℕ → ℕ
classes g t = sum_to (root t) g.count

pub record Stuck (g : Terms) (t : List ℕ) (h : List (Option ℕ)) (u : ℕ) : Type 0 where
  pub functor : IsFunctor g u
  pub place : ℕ
  pub within : place < arity_at g u
  pub stays : height_at h (under g t u place) ≡ None

pub record Blocked (g : Terms) (t : List ℕ) (h : List (Option ℕ)) (c : ℕ) : Type 0 where
  pub node : ℕ
  pub inside : class t node ≡ c
  pub stuck : Stuck g t h node

-- where the class of a node went, the classes of its children went at lower heights
abbrev pub Lower : Terms → List ℕ → List (Option ℕ) → Type 0
Lower g t h =
    (u j a : ℕ) → IsFunctor g u → j < arity_at g u → height_at h (class t u) ≡ Some a → (b : ℕ) × ((b < a) × (height_at h (under g t u j) ≡ Some b))

-- `left` classes are left. The heights of those that went are the numbers from 0 on, each once
pub record Peeled (g : Terms) (t : List ℕ) (p : Heights) : Type 0 where
  pub size : length p.height ≡ 64
  pub count : p.left ≡ left g t p.height
  pub low : (c a : ℕ) → c < 64 → height_at p.height c ≡ Some a → a + p.left < classes g t
  pub apart : (c d a : ℕ) → c < 64 → d < 64 → height_at p.height c ≡ Some a → height_at p.height d ≡ Some a → c ≡ d
  pub unused : (c : ℕ) → c < 64 → (IsClass g t c → ⊥) → height_at p.height c ≡ None
  pub lower : Lower g t p.height
  pub stuck : (c : ℕ) → IsClass g t c → height_at p.height c ≡ None → Blocked g t p.height c
