-- A set of the numbers below 65,536, one bit each in 1,024 words: bit x % 64 of word x / 64 stands for x.
--   bit_at     the bit that stands for x
--   BitNoted   what noting x does: whether it was new, and that its bit alone is set
--   Marks      the set holds just the first n numbers of a list
use Rattle.std.specs.Prelude.{◌≡◌, Bool, List, ℕ, ◌/◌, ◌%◌, ◌^◌, ◌<◌, length, get_or, eqb}
use Rattle.base.specs.Tells.{Each}

abbrev pub bit_at : List ℕ → ℕ → ℕ
bit_at l x = get_or l (x / 64) 0 / 2 ^ (x % 64) % 2

pub record BitNoted (l r : List ℕ) (x : ℕ) (new : Bool) : Type 0 where
  pub size : length r ≡ length l
  pub told : new ≡ eqb (bit_at l x) 0
  pub set : bit_at r x ≡ 1
  pub others : (y : ℕ) → (y ≡ x → ⊥) → bit_at r y ≡ bit_at l y

pub record Marks (seen l : List ℕ) (n : ℕ) : Type 0 where
  pub members : Each (λ i. bit_at seen (get_or l i 0) ≡ 1) n
  pub only : (y : ℕ) → ((i : ℕ) → i < n → get_or l i 0 ≡ y → ⊥) → bit_at seen y ≡ 0
