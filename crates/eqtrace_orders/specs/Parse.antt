-- Parse
-- What the parser gives for a line, in the terms of the grammar.
--   handed_on    what the grammar finds, as the code hands it on
--   first_five   the children that are handed on: the book's answer to more than four doesn't depend on the rest
--   as_code      an order of the grammar in the code's terms
--   order_found  the same where there may be none: then the line can't be read (refusal 16)
--   words_found  the words as numbers, the first six; none where one is no number
--   Parses       the parser's answer for a line
use Rattle.std.specs.Prelude.{◌≡◌, List, ℕ, take, Option, Some, None}
use Rattle.std.proofs.Math.Option as math
use Rattle.bounded_list.specs.Bounded.{Bounded, holding}
use Rattle.eqtrace_orders.specs.Grammar as grammar
use Rattle.eqtrace_orders.specs.Grammar.{split, numbers_of, order_of}
use Rattle.eqtrace_orders.specs.declared.Order.{Order}
use Rattle.eqtrace_orders.specs.declared.Order.TheVariants.{Variable, Functor, Equate, Withdraw, Query}

abbrev pub handed_on : {A : Type 0} → math.Option A → Option A
handed_on math.none = None
handed_on (math.some x) = Some x

abbrev pub first_five : List ℕ → List ℕ
first_five cs = take 5 cs

abbrev pub as_code : grammar.Order → Order
as_code grammar.variable = Variable
as_code (grammar.functor f cs) = Functor f (holding (first_five cs) 0)
as_code (grammar.equate n u v) = Equate n u v
as_code (grammar.withdraw n) = Withdraw n
as_code (grammar.query u v) = Query u v

abbrev pub order_found : math.Option grammar.Order → Option Order
order_found math.none = None
order_found (math.some o) = Some (as_code o)

abbrev pub six_of : math.Option (List ℕ) → Option (Bounded ℕ)
six_of math.none = None
six_of (math.some ns) = Some (holding (take 6 ns) 0)

abbrev pub words_found : List ℕ → Option (Bounded ℕ)
words_found words = six_of (numbers_of (split 32 words))

abbrev pub Parses : List ℕ → Option Order → Type 0
Parses line r = r ≡ order_found (order_of line)
