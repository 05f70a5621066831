-- A table of heads: for each of 64 groups of functor nodes the first that was met, if there is one, by the group's number.
--   Meets   what a node finds at its visit: no head of its group yet, or the head
use Rattle.std.specs.Prelude.{◌≡◌, List, ℕ, get_or, set, Option, Some, None}
use Rattle.store.specs.Views.{kind_at}
use Rattle.store.specs.declared.Terms.{Terms}

-- node u of group c, at its visit: a variable meets no head, nor does a first functor node, which becomes the head; a further one meets it
pub data Meets (head : List (Option ℕ)) (c : ℕ) (t : Terms) (u : ℕ) : List (Option ℕ) → Option ℕ → Type 0 where
  variable : (kind_at t u ≡ 1 → ⊥) → Meets head c t u head None
  first : kind_at t u ≡ 1 → get_or head c None ≡ None → Meets head c t u (set head c (Some u)) None
  further : (v : ℕ) → kind_at t u ≡ 1 → get_or head c None ≡ Some v → Meets head c t u head (Some v)
