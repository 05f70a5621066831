-- Replies as text: one line each, numbers in decimal, cited names rising after 8, 9, same, below and above.
--   decimal   a number's digits
--   Output    what the program says of one order
--   text_of   its bytes, with the line break
use Rattle.std.specs.Prelude.{cond, List, [], ◌∷◌, ◌++◌, ℕ, zero, suc, ◌+◌, ◌/◌, ◌%◌, ltb}

-- at most n + 1 digits
abbrev pub decimal_by : ℕ → ℕ → List ℕ
decimal_by zero x = (48 + x) ∷ []
decimal_by (suc n) x = cond (ltb x 10) ((48 + x) ∷ []) (decimal_by n (x / 10) ++ ((48 + x % 10) ∷ []))

-- numbers below 100,000 have at most five digits
unfoldable pub decimal : ℕ → List ℕ
decimal x = decimal_by 4 x

pub data Output : Type 0 where
  node : ℕ → Output
  held : ℕ → Output
  gone : ℕ → Output
  same : List ℕ → Output
  below : List ℕ → Output
  above : List ℕ → Output
  apart : Output
  refused : ℕ → List ℕ → Output
  unreadable : ℕ → Output

-- each number after a space
abbrev pub spaced : List ℕ → List ℕ
spaced [] = []
spaced (n ∷ ns) = 32 ∷ decimal n ++ spaced ns

-- "node", "held", "gone", "same", "below", "above", "apart", "refused"
abbrev pub word_of : Output → List ℕ
word_of (node n) = 110 ∷ 111 ∷ 100 ∷ 101 ∷ spaced (n ∷ [])
word_of (held n) = 104 ∷ 101 ∷ 108 ∷ 100 ∷ spaced (n ∷ [])
word_of (gone n) = 103 ∷ 111 ∷ 110 ∷ 101 ∷ spaced (n ∷ [])
word_of (same ns) = 115 ∷ 97 ∷ 109 ∷ 101 ∷ spaced ns
word_of (below ns) = 98 ∷ 101 ∷ 108 ∷ 111 ∷ 119 ∷ spaced ns
word_of (above ns) = 97 ∷ 98 ∷ 111 ∷ 118 ∷ 101 ∷ spaced ns
word_of apart = 97 ∷ 112 ∷ 97 ∷ 114 ∷ 116 ∷ []
word_of (refused k ns) = 114 ∷ 101 ∷ 102 ∷ 117 ∷ 115 ∷ 101 ∷ 100 ∷ spaced (k ∷ ns)
word_of (unreadable i) = 114 ∷ 101 ∷ 102 ∷ 117 ∷ 115 ∷ 101 ∷ 100 ∷ spaced (16 ∷ (i ∷ []))

abbrev pub text_of : Output → List ℕ
text_of a = word_of a ++ (10 ∷ [])
