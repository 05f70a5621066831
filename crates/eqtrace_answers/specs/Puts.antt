-- Bytes put into a lent buffer.
--   pasted        the buffer with bytes from a place on, and every other byte as it was
--   Puts          bytes were put there; the reply is the place after them
--   Adds          the same of a reply's text so far: they were put in the same buffer, which is as long as before
--   meant         an answer with the names cited beside it
--   letters       the word that its line begins with
--   numbers       the numbers after the word: its own, and the names where it cites some
--   Says          an answer's text from place 0 on
--   answer_room   bytes that hold every answer: a word of at most 7 letters, two numbers or one and 8,192 names, each of at most 6 bytes
--                with its space, and the line break
--   DigitsShow    the digits of a number, at the end of five bytes
use Rattle.std.specs.Prelude.{◌≡◌, List, [], ◌∷◌, ◌++◌, ℕ, ◌+◌, ◌<◌, length, take, drop}
use Rattle.refusals.specs.Numbers.{refusal_number}
use Rattle.eqtrace_answers.specs.Text.{Output, node, held, gone, same, below, above, apart, refused, unreadable, text_of, decimal}
use Rattle.eqtrace_answers.specs.declared.Answer.{Answer as Spoken}
use Rattle.eqtrace_answers.specs.declared.Answer.TheVariants as says
use Rattle.eqtrace_answers.specs.declared.Digits.{Digits}
use Rattle.eqtrace_answers.specs.declared.Draft.{Draft}

abbrev pub pasted : List ℕ → ℕ → List ℕ → List ℕ
pasted before at bytes = take at before ++ (bytes ++ drop (at + length bytes) before)

pub record Puts (before : List ℕ) (at : ℕ) (bytes after : List ℕ) (next : ℕ) : Type 0 where
  pub end : next ≡ at + length bytes
  pub written : after ≡ pasted before at bytes

pub record Adds (d : Draft) (bytes : List ℕ) (e : Draft) : Type 0 where
  pub same_reference : e.out.ghost_name ≡ d.out.ghost_name
  pub size : length e.out.now ≡ length d.out.now
  pub puts : Puts d.out.now d.at bytes e.out.now e.at

abbrev pub meant : Spoken → List ℕ → Output
meant (says.Node i) ns = node i
meant (says.Held n) ns = held n
meant (says.Gone n) ns = gone n
meant says.Same ns = same ns
meant says.Below ns = below ns
meant says.Above ns = above ns
meant says.Apart ns = apart
meant (says.Refused r) ns = refused (refusal_number r) ns
meant (says.Unreadable i) ns = unreadable i

abbrev pub letters : Spoken → List ℕ
letters (says.Node i) = 110 ∷ 111 ∷ 100 ∷ 101 ∷ []
letters (says.Held n) = 104 ∷ 101 ∷ 108 ∷ 100 ∷ []
letters (says.Gone n) = 103 ∷ 111 ∷ 110 ∷ 101 ∷ []
letters says.Same = 115 ∷ 97 ∷ 109 ∷ 101 ∷ []
letters says.Below = 98 ∷ 101 ∷ 108 ∷ 111 ∷ 119 ∷ []
letters says.Above = 97 ∷ 98 ∷ 111 ∷ 118 ∷ 101 ∷ []
letters says.Apart = 97 ∷ 112 ∷ 97 ∷ 114 ∷ 116 ∷ []
letters (says.Refused k) = 114 ∷ 101 ∷ 102 ∷ 117 ∷ 115 ∷ 101 ∷ 100 ∷ []
letters (says.Unreadable i) = 114 ∷ 101 ∷ 102 ∷ 117 ∷ 115 ∷ 101 ∷ 100 ∷ []

abbrev pub numbers : Spoken → List ℕ → List ℕ
numbers (says.Node i) ns = i ∷ []
numbers (says.Held n) ns = n ∷ []
numbers (says.Gone n) ns = n ∷ []
numbers says.Same ns = ns
numbers says.Below ns = ns
numbers says.Above ns = ns
numbers says.Apart ns = []
numbers (says.Refused r) ns = refusal_number r ∷ ns
numbers (says.Unreadable i) ns = 16 ∷ (i ∷ [])

-- an order's number that has at most five digits
abbrev pub Small : Spoken → Type 0
Small (says.Node i) = Unit {0}
Small (says.Held n) = Unit {0}
Small (says.Gone n) = Unit {0}
Small says.Same = Unit {0}
Small says.Below = Unit {0}
Small says.Above = Unit {0}
Small says.Apart = Unit {0}
Small (says.Refused k) = Unit {0}
Small (says.Unreadable i) = i < 100000

abbrev pub Says : Output → List ℕ → List ℕ → ℕ → Type 0
Says a before after next = Puts before 0 (text_of a) after next

abbrev pub answer_room : ℕ
answer_room = 49184

pub record DigitsShow (x : ℕ) (d : Digits) : Type 0 where
  pub size : length d.bytes ≡ 5
  pub start : d.from < 5
  pub digits : drop d.from d.bytes ≡ decimal x
