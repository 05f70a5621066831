-- Input
-- The orders of an input, one after the other: what a step from a place of the input finds.
--   first_to     the bytes before the first occurrence of a byte
--   first_line   the bytes to the first line break
--   EndsAt       the order from a place on ends there: at the next byte 10, or where the input ends
use Rattle.std.specs.Prelude.{◌≡◌, cond, List, [], ◌∷◌, ℕ, ◌+◌, ◌≤◌, length, drop, eqb}

abbrev pub first_to : ℕ → List ℕ → List ℕ
first_to b [] = []
first_to b (x ∷ xs) = cond (eqb x b) [] (x ∷ first_to b xs)

abbrev pub first_line : List ℕ → List ℕ
first_line l = first_to 10 l

pub record EndsAt (input : List ℕ) (at end : ℕ) : Type 0 where
  pub end_at : end ≡ at + length (first_line (drop at input))
  pub inside : end ≤ length input
