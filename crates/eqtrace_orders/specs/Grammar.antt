-- The grammar of orders: one a line, single spaces, decimal without leading zeros, numbers to 65,535.
--   Order       V; F symbol children; E name left right; W name; Q u v
--   split       bytes cut at each occurrence of one byte: orders at 10, words at 32
--   number_in   a word as a number; none where it isn't one
--   order_of    a line's bytes as an order; none where it can't be read (refusal 16)
--   orders_in   the lines of an input: only byte 10 breaks a line, and a final line break may be missing
use Rattle.std.specs.Prelude.{Bool, ◌&&◌, cond, List, [], ◌∷◌, ℕ, ◌+◌, ◌-◌, ◌*◌, eqb, leb}
use Rattle.std.proofs.Math.Option.{Option, none, some}
use Rattle.graph.specs.Lines.{try}

pub data Order : Type 0 where
  variable : Order
  functor : (symbol : ℕ) (children : List ℕ) → Order
  equate : (name left right : ℕ) → Order
  withdraw : (name : ℕ) → Order
  query : (u v : ℕ) → Order

-- ---- words

-- one byte put in front of the first part
abbrev pub on_first : ℕ → List (List ℕ) → List (List ℕ)
on_first x [] = (x ∷ []) ∷ []
on_first x (w ∷ ws) = (x ∷ w) ∷ ws

-- the parts between the occurrences of the byte at; no bytes are one empty part
abbrev pub split : ℕ → List ℕ → List (List ℕ)
split at [] = [] ∷ []
split at (x ∷ xs) = cond (eqb x at) ([] ∷ split at xs) (on_first x (split at xs))

-- ---- numbers

abbrev pub is_digit : ℕ → Bool
is_digit x = leb 48 x && leb x 57

-- the digits' value after those read, which have the value v; none at another byte or above 65,535
abbrev pub digits_from : ℕ → List ℕ → Option ℕ
digits_from v [] = some v
digits_from v (x ∷ xs) = cond (is_digit x && leb (v * 10 + (x - 48)) 65535) (digits_from (v * 10 + (x - 48)) xs) none

-- a number has a digit, and a leading zero only as the whole of it
abbrev pub number_in : List ℕ → Option ℕ
number_in [] = none
number_in (x ∷ []) = digits_from 0 (x ∷ [])
number_in (x ∷ (y ∷ ys)) = cond (eqb x 48) none (digits_from 0 (x ∷ (y ∷ ys)))

abbrev pub numbers_of : List (List ℕ) → Option (List ℕ)
numbers_of [] = some []
numbers_of (w ∷ ws) = try (number_in w) (λ n. try (numbers_of ws) (λ ns. some (n ∷ ns)))

-- ---- orders

abbrev pub none_left : List ℕ → Option Order
none_left [] = some variable
none_left (n ∷ ns) = none

abbrev pub as_functor : List ℕ → Option Order
as_functor [] = none
as_functor (f ∷ cs) = some (functor f cs)

abbrev pub as_equate : List ℕ → Option Order
as_equate [] = none
as_equate (n ∷ []) = none
as_equate (n ∷ (u ∷ [])) = none
as_equate (n ∷ (u ∷ (v ∷ []))) = some (equate n u v)
as_equate (n ∷ (u ∷ (v ∷ (x ∷ xs)))) = none

abbrev pub as_withdraw : List ℕ → Option Order
as_withdraw [] = none
as_withdraw (n ∷ []) = some (withdraw n)
as_withdraw (n ∷ (x ∷ xs)) = none

abbrev pub as_query : List ℕ → Option Order
as_query [] = none
as_query (u ∷ []) = none
as_query (u ∷ (v ∷ [])) = some (query u v)
as_query (u ∷ (v ∷ (x ∷ xs))) = none

-- by the letter: V, F, E, W or Q
abbrev pub by_letter : ℕ → List ℕ → Option Order
by_letter x ns =
    cond (eqb x 86) (none_left ns)
    (cond (eqb x 70) (as_functor ns)
    (cond (eqb x 69) (as_equate ns)
    (cond (eqb x 87) (as_withdraw ns)
    (cond (eqb x 81) (as_query ns) none))))

abbrev pub words_as : List (List ℕ) → Option Order
words_as [] = none
words_as ([] ∷ ws) = none
words_as ((x ∷ []) ∷ ws) = try (numbers_of ws) (by_letter x)
words_as ((x ∷ (y ∷ ys)) ∷ ws) = none

unfoldable pub order_of : List ℕ → Option Order
order_of line = words_as (split 32 line)

-- ---- lines

-- without the empty part after a final line break; an empty input has no orders
abbrev pub drop_last : List (List ℕ) → List (List ℕ)
drop_last [] = []
drop_last ([] ∷ []) = []
drop_last ((x ∷ xs) ∷ []) = (x ∷ xs) ∷ []
drop_last (l ∷ (k ∷ ls)) = l ∷ drop_last (k ∷ ls)

unfoldable pub orders_in : List ℕ → List (List ℕ)
orders_in input = drop_last (split 10 input)
