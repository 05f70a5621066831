-- An input as a script: which of its lines are answered, and when the program stops. There are two ways to answer a list of
-- orders: to its end, or to the first refusal.
--   input_limit   65,536
--   refuses       an answer says that the order was refused
--   goes_on       whether the next order is answered: always in the way that keeps going, else not after a refusal
--   left_after    the orders that are left after an answer
--   next_place    where the input goes on behind an order: at the next line, or at its end if the answer stops the program
--   is_keep       the line `K`, which the grammar of orders can't read
--   Script        orders to answer, the way, and the first one's number
--   script_of     an input's lines as a script: a first line `K` is order 1, has no answer, and says to keep going
--   to_refusal    answers up to the first refusal, and with it; some_refuses: there is one
use Rattle.std.specs.Prelude.{Bool, true, false, ◌||◌, not, cond, List, [], ◌∷◌, ℕ, ◌+◌, eqb}
use Rattle.eqtrace_answers.specs.Text.{Output, node, held, gone, same, below, above, apart, refused, unreadable}

-- bytes of an input, and so as many orders
abbrev pub input_limit : ℕ
input_limit = 65536

abbrev pub refuses : Output → Bool
refuses (node n) = false
refuses (held n) = false
refuses (gone n) = false
refuses (same ns) = false
refuses (below ns) = false
refuses (above ns) = false
refuses apart = false
refuses (refused k ns) = true
refuses (unreadable i) = true

abbrev pub goes_on : Bool → Bool → Bool
goes_on keep refusal = keep || not refusal

abbrev pub left_after : Bool → Output → List (List ℕ) → List (List ℕ)
left_after keep a lines = cond (goes_on keep (refuses a)) lines []

-- end is the order's, size the input's
abbrev pub next_place : Bool → Bool → ℕ → ℕ → ℕ
next_place keep refusal end size = cond (goes_on keep refusal) (end + 1) size

abbrev pub is_keep : List ℕ → Bool
is_keep [] = false
is_keep (x ∷ []) = eqb x 75
is_keep (x ∷ (y ∷ ys)) = false

pub record Script : Type 0 where
  pub keep : Bool
  pub first : ℕ
  pub orders : List (List ℕ)

abbrev pub script_of : List (List ℕ) → Script
script_of [] = record { keep = false; first = 1; orders = [] }
script_of (line ∷ lines) = cond (is_keep line) (record { keep = true; first = 2; orders = lines }) (record { keep = false; first = 1; orders = line ∷ lines })

abbrev pub to_refusal : List Output → List Output
to_refusal [] = []
to_refusal (a ∷ answers) = a ∷ cond (refuses a) [] (to_refusal answers)

abbrev pub some_refuses : List Output → Bool
some_refuses [] = false
some_refuses (a ∷ answers) = refuses a || some_refuses answers
