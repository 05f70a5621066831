-- A line's eight bytes: byte 0 rule, byte 1 place, bytes 2-3 first, bytes 4-5 second, bytes 6-7 reserved; a 16-bit field has its high byte first.
--   line_at       line k of the bytes
--   first_lines   the first n lines
--   lines_of      all whole lines
--   Put           a line was written at its place, and no other byte
use Rattle.std.specs.Prelude.{◌≡◌, List, ℕ, ◌+◌, ◌*◌, ◌/◌, ◌≤◌, ◌<◌, length, get_or}
use Rattle.base.specs.Tab.{tab}
use Rattle.graph.specs.Lines.{Line}

-- the 16-bit number at a byte
abbrev pub two : List ℕ → ℕ → ℕ
two bs at = get_or bs at 0 * 256 + get_or bs (at + 1) 0

-- the line whose first byte is byte o
abbrev pub line_from : List ℕ → ℕ → Line
line_from bs o =
    record {
      rule = get_or bs o 0;
      place = get_or bs (o + 1) 0;
      first = two bs (o + 2);
      second = two bs (o + 4);
      reserved = two bs (o + 6);
    }

abbrev pub line_at : List ℕ → ℕ → Line
line_at bs k = line_from bs (8 * k)

unfoldable pub first_lines : ℕ → List ℕ → List Line
first_lines n bs = tab n (line_at bs)

abbrev pub lines_of : List ℕ → List Line
lines_of bs = first_lines (length bs / 8) bs

-- a line by its four fields, its last two bytes zero
abbrev pub line : ℕ → ℕ → ℕ → ℕ → Line
line r p f g = record { rule = r; place = p; first = f; second = g; reserved = 0 }

-- l is line n of out, and every other byte is as in buf
pub record Put (buf : List ℕ) (n : ℕ) (l : Line) (out : List ℕ) : Type 0 where
  pub size : length out ≡ length buf
  pub at : line_at out n ≡ l
  pub before : (i : ℕ) → i < 8 * n → get_or out i 0 ≡ get_or buf i 0
  pub past : (i : ℕ) → 8 * n + 8 ≤ i → get_or out i 0 ≡ get_or buf i 0
