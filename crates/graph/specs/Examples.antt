-- The worked examples, gathered into a single fact, `Examples`, which proofs/Examples proves.
--   Starred      document 01, "Examples to hold against the definitions": each that is marked *
--   SectionTwo   the last of them, document 001, section 2: equations a to i
--   Nothing      what proves nothing: down and up another edge, and no congruence (document 01, "Mistakes seen in such solvers")
--   Untidy       a field that a rule doesn't use is zero: a number there breaks each of the six rules
--   Broken       lines that break a rule, or keep it and don't show the goal
--   Refusals     the small examples of refusals 2 to 10, an example on each side of each limit, and the order of the refusals
--   Arities      document 02 (c): one symbol, one number of children, refusal 18 and its place in the order
use Rattle.std.specs.Prelude.{◌≡◌, List, [], ◌∷◌, ◌++◌, ℕ, length, take, replicate}
use Rattle.std.proofs.Math.Option.{none}
use Rattle.graph.specs.State.{Node, variable, functor, Equation, State, IsNode, Proper, equation_of, state_with, empty_state, offered}
use Rattle.base.specs.Tab.{tab}
use Rattle.graph.specs.Closure.{Same, Clash, Cycle}
use Rattle.graph.specs.Solution.{Solution}
use Rattle.graph.specs.Verdict.{Verdict}
use Rattle.graph.specs.Lines.{Line}
use Rattle.graph.specs.Goals.{Goal, clash_goal, cycle_goal, same_goal, below_goal, refused, broken_line, judge, Passes}
use Rattle.graph.specs.Book.{Call, declare, equate, withdraw, BookReply, number, held, gone, Transition, early, Refusal, answer, Runs}
use Rattle.graph.specs.Book as book

-- a proof buffer that is long enough
abbrev pub room : ℕ
room = 65536

-- a line: rule, place, first, second, and the number in bytes 6 and 7
abbrev pub line_with : ℕ → ℕ → ℕ → ℕ → ℕ → Line
line_with r p f s w = record { rule = r; place = p; first = f; second = s; reserved = w }

-- the lines of the six rules, with zero in the fields that the rule doesn't use. Rule 1: a name
abbrev pub equation_line : ℕ → Line
equation_line n = line_with 1 0 n 0 0

-- rule 2: a functor node, a place from 1
abbrev pub child_line : ℕ → ℕ → Line
child_line u p = line_with 2 p u 0 0

-- rule 3: a node
abbrev pub self_line : ℕ → Line
self_line u = line_with 3 0 u 0 0

-- rule 4: an earlier line
abbrev pub turned_line : ℕ → Line
turned_line l = line_with 4 0 l 0 0

-- rule 5: two earlier lines
abbrev pub joined_line : ℕ → ℕ → Line
joined_line l m = line_with 5 0 l m 0

-- rule 6: an earlier line, a place from 1
abbrev pub down_line : ℕ → ℕ → Line
down_line l p = line_with 6 p l 0 0

-- the replies of a list of answers, without the states
abbrev pub replies_of : List Transition → List BookReply
replies_of [] = []
replies_of (a ∷ rest) = a.reply ∷ replies_of rest

-- the book, from the start, answers the calls with these replies and then is in state d
pub record ExampleRun (cs : List Call) (rs : List BookReply) (d : State) : Type 0 where
  pub answers : List Transition
  pub runs : Runs empty_state cs answers d
  pub replies : replies_of answers ≡ rs

-- ---- document 01's examples that are marked *

-- V, F 1, F 2
abbrev pub program : List Node
program = variable ∷ functor 1 [] ∷ functor 2 [] ∷ []

-- E 10 0 1
abbrev pub e10 : Equation
e10 = equation_of 10 0 1

-- E 11 0 2
abbrev pub e11 : Equation
e11 = equation_of 11 0 2

-- the program's orders, then W 10 and E 11 0 2 again
abbrev pub program_calls : List Call
program_calls =
    declare variable ∷ declare (functor 1 []) ∷ declare (functor 2 []) ∷ equate e10 room ∷ equate e11 room ∷ withdraw 10 ∷ equate e11 room ∷ []

-- what the book replies to them
abbrev pub program_replies : List BookReply
program_replies = number 0 ∷ number 1 ∷ number 2 ∷ held ∷ book.refused 8 ∷ gone ∷ held ∷ []

-- 0 variable, 1 = symbol 5 of 0
abbrev pub loop : State
loop = state_with (variable ∷ functor 5 (0 ∷ []) ∷ []) []

-- 0 variable, 1 = symbol 7 of 0
abbrev pub unary : State
unary = state_with (variable ∷ functor 7 (0 ∷ []) ∷ []) []

-- 0 variable, 1 and 2 symbols 7 and 8 of 0
abbrev pub labels : State
labels = state_with (variable ∷ functor 7 (0 ∷ []) ∷ functor 8 (0 ∷ []) ∷ []) []

-- a, m, b are 0, 1, 2; then f(a, m) = f(m, b)
abbrev pub chain : State
chain =
    state_with (variable ∷ variable ∷ variable ∷ functor 1 (0 ∷ 1 ∷ []) ∷ functor 1 (1 ∷ 2 ∷ []) ∷ [])
    (equation_of 10 3 4 ∷ [])

-- 0 variable, 1 and 2 symbols 1 and 2 without children, 3 = 7(0, 1), 4 = 5(0), 5 = 7(4, 2)
abbrev pub both : State
both =
    state_with (variable ∷ functor 1 [] ∷ functor 2 [] ∷ functor 7 (0 ∷ 1 ∷ []) ∷ functor 5 (0 ∷ []) ∷ functor 7 (4 ∷ 2 ∷ []) ∷ []) []

pub record Starred : Type 0 where
  -- no equations: each node alone
  pub alone : (ns : List Node) (u v : ℕ) → Same (state_with ns []) u v → u ≡ v
  -- node equated with itself: held, in every state that has a solution
  pub itself : (s : State) → Proper s → Solution s → (n u : ℕ) → IsNode s u → Verdict (offered s (equation_of n u u)) 0
  pub itself_held : Refusal (state_with (variable ∷ []) []) (equate (equation_of 10 0 0) room) 0
  -- the example above (the program's): clash
  pub program_held : Refusal (state_with program []) (equate e10 room) 0
  pub program_clash : Refusal (state_with program (e10 ∷ [])) (equate e11 room) 8
  pub program_same : Same (state_with program (e10 ∷ [])) 0 1
  -- after withdrawing 10, equation 11 has a solution
  pub program_after : Solution (state_with program (e11 ∷ []))
  pub program_session : ExampleRun program_calls program_replies (state_with program (e11 ∷ []))
  -- 0 = 1: cycle
  pub loop_cycle : Refusal loop (equate (equation_of 10 0 1) room) 9
  -- symbol 7 with one child, then symbol 7 with two: the declaration is refused (document 02 (c))
  pub arities_refused : Refusal unary (declare (functor 7 (0 ∷ 0 ∷ []))) 18
  -- f(a, m) = f(m, b): a same b
  pub a_same_b : Same chain 0 2
  -- 3 = 5: both faults, so clash
  pub both_cycle : Cycle (offered both (equation_of 10 3 5))
  pub both_clash : Refusal both (equate (equation_of 10 3 5) room) 8

-- ---- document 001, section 2

-- t0 to t7 are 0 to 7; bool is 8; int is 9 and 10; t1 → t2 is 11, t7 → t4 is 12, int → int is 13. Symbols: bool 1, int 2, the arrow 3
abbrev pub types : List Node
types = replicate 8 variable ++ (functor 1 [] ∷ functor 2 [] ∷ functor 2 [] ∷ functor 3 (1 ∷ 2 ∷ []) ∷ functor 3 (7 ∷ 4 ∷ []) ∷ functor 3 (9 ∷ 10 ∷ []) ∷ [])

-- a: t0 = t1 → t2, b: t2 = t4
abbrev pub a_b : List Equation
a_b = equation_of 1 0 11 ∷ equation_of 2 2 4 ∷ []

-- c: t3 = bool, d: t4 = t5, e: t3 = t1, f: t6 = t7 → t4, g: t5 = t1
abbrev pub c_g : List Equation
c_g = equation_of 3 3 8 ∷ equation_of 4 4 5 ∷ equation_of 5 3 1 ∷ equation_of 6 6 12 ∷ equation_of 7 5 1 ∷ []

-- h: t6 = int → int
abbrev pub eq_h : Equation
eq_h = equation_of 8 6 13

-- i: t7 = t1
abbrev pub eq_i : Equation
eq_i = equation_of 9 7 1

-- the calls that offer the equations in order
abbrev pub equates : List Equation → List Call
equates [] = []
equates (e ∷ es) = equate e room ∷ equates es

-- the calls that declare the nodes in order
abbrev pub declares : List Node → List Call
declares [] = []
declares (n ∷ ns) = declare n ∷ declares ns

pub record SectionTwo : Type 0 where
  -- every prefix of a to g has a solution
  pub a_to_g : (k : ℕ) → Solution (state_with types (take k (a_b ++ c_g))) × Verdict (state_with types (take k (a_b ++ c_g))) 0
  -- h is refused as clash
  pub h_refused : Refusal (state_with types (a_b ++ c_g)) (equate eq_h room) 8
  -- c, d, e, f, g, h clash by themselves
  pub c_to_h : Clash (state_with types (c_g ++ (eq_h ∷ [])))
  -- i is then held
  pub i_held : Refusal (state_with types (a_b ++ c_g)) (equate eq_i room) 0
  -- all of it, a to i in order
  pub session : ExampleRun (declares types ++ equates (a_b ++ (c_g ++ (eq_h ∷ eq_i ∷ []))))
      (tab 14 number ++ (replicate 7 held ++ (book.refused 8 ∷ held ∷ [])))
      (state_with types (a_b ++ (c_g ++ (eq_i ∷ []))))

-- ---- what proves nothing

-- 0 and 1 are the children of 2
abbrev pub siblings : State
siblings = state_with (variable ∷ variable ∷ functor 7 (0 ∷ 1 ∷ []) ∷ []) []

-- 1 and 2 have the child 0
abbrev pub parents : State
parents = state_with (variable ∷ functor 7 (0 ∷ []) ∷ functor 7 (0 ∷ []) ∷ []) []

-- 2 = f(0), 3 = f(1); 0 = 1
abbrev pub congruent : State
congruent = state_with (variable ∷ variable ∷ functor 7 (0 ∷ []) ∷ functor 7 (1 ∷ []) ∷ []) (equation_of 10 0 1 ∷ [])

pub record Nothing : Type 0 where
  -- up to the parent and down another edge: not the same, no list of lines shows it, and the lines that one would write break rule 4
  pub siblings_apart : Same siblings 0 1 → ⊥
  pub siblings_unproved : (ls : List Line) → Passes siblings (same_goal 0 1) ls → ⊥
  pub siblings_lines : judge siblings (same_goal 0 1) (child_line 2 1 ∷ child_line 2 2 ∷ turned_line 0 ∷ joined_line 2 1 ∷ []) ≡ broken_line 2
  -- down to the child and up another edge
  pub parents_apart : Same parents 1 2 → ⊥
  pub parents_unproved : (ls : List Line) → Passes parents (same_goal 1 2) ls → ⊥
  pub parents_lines : judge parents (same_goal 1 2) (child_line 1 1 ∷ child_line 2 1 ∷ turned_line 1 ∷ joined_line 0 2 ∷ []) ≡ broken_line 2
  -- the closure goes down only
  pub no_congruence : Same congruent 2 3 → ⊥
  -- a cycle is looked for any number of steps down: 0 variable, 1 = f(0), 2 = f(1); 0 = 2
  pub two_steps : Refusal (state_with (variable ∷ functor 7 (0 ∷ []) ∷ functor 7 (1 ∷ []) ∷ []) []) (equate (equation_of 10 0 2) room) 9

-- ---- fields that a rule doesn't use

-- 2 = f(0), 3 = f(1); equation 10: 2 = 3
abbrev pub pair : State
pair = state_with (variable ∷ variable ∷ functor 7 (0 ∷ []) ∷ functor 7 (1 ∷ []) ∷ []) (equation_of 10 2 3 ∷ [])

-- the goal is passed with the good line at the end; with the bad one in its place, that line breaks its rule
abbrev pub Spoilt : Goal → List Line → Line → Line → Type 0
Spoilt g ls good bad = Passes pair g (ls ++ (good ∷ [])) × (judge pair g (ls ++ (bad ∷ [])) ≡ broken_line (length ls))

pub record Untidy : Type 0 where
  pub equation_place : Spoilt (same_goal 2 3) [] (equation_line 10) (line_with 1 1 10 0 0)
  pub equation_second : Spoilt (same_goal 2 3) [] (equation_line 10) (line_with 1 0 10 1 0)
  pub equation_reserved : Spoilt (same_goal 2 3) [] (equation_line 10) (line_with 1 0 10 0 1)
  pub child_second : Spoilt (below_goal 2 0) [] (child_line 2 1) (line_with 2 1 2 1 0)
  pub child_reserved : Spoilt (below_goal 2 0) [] (child_line 2 1) (line_with 2 1 2 0 1)
  pub self_place : Spoilt (same_goal 2 2) [] (self_line 2) (line_with 3 1 2 0 0)
  pub self_second : Spoilt (same_goal 2 2) [] (self_line 2) (line_with 3 0 2 1 0)
  pub self_reserved : Spoilt (same_goal 2 2) [] (self_line 2) (line_with 3 0 2 0 1)
  pub turned_place : Spoilt (same_goal 3 2) (equation_line 10 ∷ []) (turned_line 0) (line_with 4 1 0 0 0)
  pub turned_second : Spoilt (same_goal 3 2) (equation_line 10 ∷ []) (turned_line 0) (line_with 4 0 0 1 0)
  pub turned_reserved : Spoilt (same_goal 3 2) (equation_line 10 ∷ []) (turned_line 0) (line_with 4 0 0 0 1)
  pub joined_place : Spoilt (below_goal 2 1) (equation_line 10 ∷ child_line 3 1 ∷ []) (joined_line 0 1) (line_with 5 1 0 1 0)
  pub joined_reserved : Spoilt (below_goal 2 1) (equation_line 10 ∷ child_line 3 1 ∷ []) (joined_line 0 1) (line_with 5 0 0 1 1)
  pub down_second : Spoilt (same_goal 0 1) (equation_line 10 ∷ []) (down_line 0 1) (line_with 6 1 0 1 0)
  pub down_reserved : Spoilt (same_goal 0 1) (equation_line 10 ∷ []) (down_line 0 1) (line_with 6 1 0 0 1)

-- ---- lines that break a rule

-- line k of these is the first that breaks its rule
abbrev pub BreaksAt : ℕ → List Line → Type 0
BreaksAt k ls = judge pair (same_goal 2 3) ls ≡ broken_line k

pub record Broken : Type 0 where
  pub rule_0 : BreaksAt 0 (line_with 0 0 0 0 0 ∷ [])
  pub rule_7 : BreaksAt 0 (line_with 7 0 0 0 0 ∷ [])
  -- the first such line is given
  pub first_such : BreaksAt 1 (equation_line 10 ∷ line_with 7 0 0 0 0 ∷ line_with 8 0 0 0 0 ∷ [])
  -- a name that isn't held
  pub no_name : BreaksAt 0 (equation_line 11 ∷ [])
  -- places are counted from 1, to the number of children; a variable has none
  pub child_place_0 : BreaksAt 0 (child_line 2 0 ∷ [])
  pub child_place_2 : BreaksAt 0 (child_line 2 2 ∷ [])
  pub child_of_variable : BreaksAt 0 (child_line 0 1 ∷ [])
  pub self_unknown : BreaksAt 0 (self_line 4 ∷ [])
  -- only earlier lines are cited
  pub turned_itself : BreaksAt 1 (equation_line 10 ∷ turned_line 1 ∷ [])
  pub turned_later : BreaksAt 0 (turned_line 1 ∷ equation_line 10 ∷ [])
  pub turned_below : BreaksAt 1 (child_line 2 1 ∷ turned_line 0 ∷ [])
  -- the first's end is the second's start
  pub joined_apart : BreaksAt 1 (equation_line 10 ∷ joined_line 0 0 ∷ [])
  pub down_below : BreaksAt 1 (child_line 2 1 ∷ down_line 0 1 ∷ [])
  pub down_variables : BreaksAt 1 (self_line 0 ∷ down_line 0 1 ∷ [])
  pub down_place_0 : BreaksAt 1 (equation_line 10 ∷ down_line 0 0 ∷ [])
  pub down_place_2 : BreaksAt 1 (equation_line 10 ∷ down_line 0 2 ∷ [])
  -- symbols 7 and 8, with one child each: labels that aren't equal
  pub down_labels : judge (offered labels (equation_of 10 1 2)) (same_goal 0 0) (equation_line 10 ∷ down_line 0 1 ∷ []) ≡ broken_line 1
  -- each line keeps its rule, and the last doesn't show the goal: 13
  pub cycle_wanted : judge pair cycle_goal (self_line 0 ∷ []) ≡ refused 13
  pub clash_wanted : judge pair clash_goal (equation_line 10 ∷ []) ≡ refused 13
  pub other_way_wanted : judge pair (same_goal 3 2) (equation_line 10 ∷ []) ≡ refused 13
  pub below_wanted : judge pair (below_goal 2 3) (equation_line 10 ∷ []) ≡ refused 13
  pub no_lines : judge pair (same_goal 2 3) [] ≡ refused 13
  -- lines that show a clash and a cycle pass
  pub clash_shown : Passes (offered labels (equation_of 10 1 2)) clash_goal (equation_line 10 ∷ [])
  pub cycle_shown : Passes (offered loop (equation_of 10 0 1)) cycle_goal (equation_line 10 ∷ child_line 1 1 ∷ joined_line 0 1 ∷ [])

-- ---- refusals and limits

-- the nodes, with k equations, named from 0: each holds node 0 the same as itself
abbrev pub many : List Node → ℕ → State
many ns k = state_with ns (tab k (λ j. equation_of j 0 0))

-- one variable
abbrev pub one : List Node
one = variable ∷ []

pub record Refusals : Type 0 where
  -- 2: 64 nodes held
  pub node_64 : Refusal (state_with (replicate 63 variable) []) (declare variable) 0
  pub node_65 : Refusal (state_with (replicate 64 variable) []) (declare variable) 2
  -- 3: over 4 children
  pub children_4 : Refusal (state_with one []) (declare (functor 1 (replicate 4 0))) 0
  pub children_5 : Refusal (state_with one []) (declare (functor 1 (replicate 5 0))) 3
  -- 4: child 0 of the first node; an unknown end
  pub first_child : Refusal empty_state (declare (functor 1 (0 ∷ []))) 4
  pub left_unknown : Refusal (state_with one []) (equate (equation_of 10 1 0) room) 4
  pub right_unknown : Refusal (state_with one []) (equate (equation_of 10 0 1) room) 4
  -- 5: 65,535 bytes
  pub buffer_whole : early (state_with one []) (equate (equation_of 10 0 0) 65536) ≡ none
  pub buffer_whole_held : Refusal (state_with one []) (equate (equation_of 10 0 0) 65536) 0
  pub buffer_short : Refusal (state_with one []) (equate (equation_of 10 0 0) 65535) 5
  -- 6: a name twice
  pub name_twice : Refusal (state_with one (equation_of 10 0 0 ∷ [])) (equate (equation_of 10 0 0) room) 6
  -- 7: 256 equations held
  pub equation_256 : early (many one 255) (equate (equation_of 256 0 0) room) ≡ none
  pub equation_256_held : Refusal (many one 255) (equate (equation_of 256 0 0) room) 0
  pub equation_257 : Refusal (many one 256) (equate (equation_of 256 0 0) room) 7
  -- one place freed and taken again
  pub equation_freed : early (answer (many one 256) (withdraw 0) 0).state (equate (equation_of 256 0 0) room) ≡ none
  pub equation_freed_held : Refusal (answer (many one 256) (withdraw 0) 0).state (equate (equation_of 256 0 0) room) 0
  -- 8 and 9: symbol 1 = symbol 2; 0 = f(0). Where both apply, 8 (`both_clash` above)
  pub symbols_clash : Refusal (state_with (functor 1 [] ∷ functor 2 [] ∷ []) []) (equate (equation_of 10 0 1) room) 8
  pub f_cycle : Refusal (state_with (variable ∷ functor 1 (0 ∷ []) ∷ []) []) (equate (equation_of 10 0 1) room) 9
  -- 10: withdraw 10 when fresh
  pub not_held : Refusal empty_state (withdraw 10) 10
  pub withdrawn : Refusal (state_with one (equation_of 10 0 0 ∷ [])) (withdraw 10) 0
  -- declare: 2 before 3 before 4; before 18: `Arities`
  pub two_before_three : Refusal (state_with (replicate 64 variable) []) (declare (functor 1 (replicate 5 64))) 2
  pub three_before_four : Refusal empty_state (declare (functor 1 (replicate 5 0))) 3
  -- equate: 5 before 4 before 6 before 7 before 8
  pub five_before_four : Refusal (many one 256) (equate (equation_of 0 0 1) 65535) 5
  pub four_before_six : Refusal (many one 256) (equate (equation_of 0 0 1) room) 4
  pub six_before_seven : Refusal (many one 256) (equate (equation_of 0 0 0) room) 6
  pub seven_before_eight : Refusal (many (functor 1 [] ∷ functor 2 [] ∷ []) 256) (equate (equation_of 256 0 1) room) 7

-- ---- one symbol, one number of children

pub record Arities : Type 0 where
  -- more, fewer or no children than an earlier functor node of the symbol; more: `arities_refused`
  pub fewer_children : Refusal (state_with (variable ∷ functor 7 (0 ∷ 0 ∷ []) ∷ []) []) (declare (functor 7 (0 ∷ []))) 18
  pub no_children : Refusal unary (declare (functor 7 [])) 18
  pub after_none : Refusal (state_with (functor 7 [] ∷ []) []) (declare (functor 7 (0 ∷ []))) 18
  -- as many, whichever they are
  pub as_many : Refusal unary (declare (functor 7 (1 ∷ []))) 0
  -- another symbol has a number of its own, its remainder by 64 being what it may
  pub other_symbol : Refusal unary (declare (functor 8 (0 ∷ 0 ∷ []))) 0
  pub other_remainder : Refusal unary (declare (functor 71 (0 ∷ 0 ∷ []))) 0
  -- a variable is no functor node of symbol 0, nor has it a number of children to agree with
  pub symbol_0 : Refusal (state_with one []) (declare (functor 0 (0 ∷ []))) 0
  pub symbol_0_again : Refusal (state_with (functor 0 [] ∷ []) []) (declare (functor 0 (0 ∷ []))) 18
  pub variable_again : Refusal unary (declare variable) 0
  -- declare: 2 before 3 before 4 before 18
  pub two_before_eighteen : Refusal (state_with (functor 7 [] ∷ replicate 63 variable) []) (declare (functor 7 (0 ∷ []))) 2
  pub three_before_eighteen : Refusal unary (declare (functor 7 (replicate 5 0))) 3
  pub four_before_eighteen : Refusal unary (declare (functor 7 (0 ∷ 2 ∷ []))) 4
  -- refused declarations, with 4 and with 18, fix no number
  pub refused_fixes_none : ExampleRun
      (declare (functor 7 (0 ∷ [])) ∷ declare variable ∷ declare (functor 7 (0 ∷ 0 ∷ [])) ∷ declare (functor 7 (0 ∷ [])) ∷ declare (functor 7 (1 ∷ 1 ∷ [])) ∷ [])
      (book.refused 4 ∷ number 0 ∷ number 1 ∷ book.refused 18 ∷ number 2 ∷ [])
      (state_with (variable ∷ functor 7 (0 ∷ 0 ∷ []) ∷ functor 7 (1 ∷ 1 ∷ []) ∷ []) [])
  -- a withdrawal frees no symbol, a clearing does
  pub withdrawal_frees_none : ExampleRun
      (declare variable ∷ declare (functor 7 (0 ∷ [])) ∷ equate (equation_of 10 1 1) room ∷ withdraw 10 ∷ declare (functor 7 []) ∷ [])
      (number 0 ∷ number 1 ∷ held ∷ gone ∷ book.refused 18 ∷ []) unary
  pub clear_frees : ExampleRun (declare (functor 7 []) ∷ declare (functor 7 (0 ∷ [])) ∷ book.clear ∷ declare variable ∷ declare (functor 7 (0 ∷ [])) ∷ [])
      (number 0 ∷ book.refused 18 ∷ book.cleared ∷ number 0 ∷ number 1 ∷ []) unary
  -- a clash is between two symbols
  pub other_symbol_clash : Refusal (state_with (variable ∷ functor 1 (0 ∷ []) ∷ functor 2 (0 ∷ 0 ∷ []) ∷ []) []) (equate (equation_of 5 1 2) room) 8

-- ---- the single fact

pub record Examples : Type 0 where
  pub starred : Starred
  pub section_two : SectionTwo
  pub nothing : Nothing
  pub untidy : Untidy
  pub broken : Broken
  pub refusals : Refusals
  pub arities : Arities
