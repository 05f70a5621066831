-- The shorter of two: of two lists of lines that each pass for the same goal, the one with fewer lines, the first on a tie. The
-- first list is checked whole, then the second.
--   Choice          which list, or a refusal: its number; at 11 and 13 with the list, 1 or 2; at 12 the list and the line
--   list_number     1 or 2; which: the list of a number
--   choice          the code's reply in these terms
--   shorter_reply   the choice between two lists, given as bytes
--   shorter_of      the bytes that are handed back: none where the choice is refused
use Rattle.std.specs.Prelude.{cond, List, [], ℕ, ◌/◌, length, eqb, ltb, Result, Ok, Err, Some, None}
use Rattle.std.specs.declared.option.Option.{Option as Optional}
use Rattle.std.proofs.Math.Option.{Option}
use Rattle.graph.specs.State.{State, Equation}
use Rattle.graph.specs.Goals.{Goal, Judgement, passed, refused, broken_line}
use Rattle.unifier.specs.Check.{check_reply}
use Rattle.refusals.specs.Numbers.{refusal_number, Brought, nothing, proof, place, brings}
use Rattle.proof_shorter.specs.declared.List.{List as Which}
use Rattle.proof_shorter.specs.declared.List.TheVariants.{First, Second}
use Rattle.proof_shorter.specs.declared.NoChoice.{NoChoice}

pub data Choice : Type 0 where
  first : Choice
  second : Choice
  refusal : ℕ → Choice
  refusal_in : ℕ → ℕ → Choice
  broken_in : ℕ → ℕ → Choice

abbrev pub list_number : Which → ℕ
list_number First = 1
list_number Second = 2

abbrev pub which : ℕ → Which
which l = cond (eqb l 1) First Second

-- refusal k of list l, by what it brings
abbrev pub of_list : ℕ → ℕ → Brought → Choice
of_list l k nothing = refusal_in k l
of_list l k (proof n) = refusal_in k l
of_list l k (place i) = broken_in l i

abbrev pub refused_for : Optional Which → ℕ → Brought → Choice
refused_for None k b = refusal k
refused_for (Some l) k b = of_list (list_number l) k b

abbrev pub choice : Result Which NoChoice → Choice
choice (Ok First) = first
choice (Ok Second) = second
choice (Err n) = refused_for n.list (refusal_number n.refusal) (brings n.refusal)

-- a refusal of list l: below 11 it is none of the list's
abbrev pub in_list : ℕ → ℕ → Choice
in_list k l = cond (ltb k 11) (refusal k) (refusal_in k l)

-- a refusal of list l, or what comes after it
abbrev pub or_else : ℕ → Judgement → Choice → Choice
or_else l passed c = c
or_else l (refused k) c = in_list k l
or_else l (broken_line i) c = broken_in l i

-- a line is 8 bytes
abbrev pub line_count : List ℕ → ℕ
line_count bytes = length bytes / 8

abbrev pub fewer_lines : List ℕ → List ℕ → Choice
fewer_lines a b = cond (ltb (line_count b) (line_count a)) second first

unfoldable pub shorter_reply : State → Option Equation → Goal → List ℕ → List ℕ → Choice
shorter_reply s o g a b = or_else 1 (check_reply s o g a) (or_else 2 (check_reply s o g b) (fewer_lines a b))

abbrev pub part_of : Choice → List ℕ → List ℕ → List ℕ
part_of first a b = a
part_of second a b = b
part_of (refusal k) a b = []
part_of (refusal_in k l) a b = []
part_of (broken_in l i) a b = []

abbrev pub shorter_of : State → Option Equation → Goal → List ℕ → List ℕ → List ℕ
shorter_of s o g a b = part_of (shorter_reply s o g a b) a b
