-- What the program prints for an input (document 01, "The program `eqtrace`"; document 02 (a)), from the input's bytes.
--   texts_of    the answers' texts, one after the other
--   script_in   the script that an input is
--   AnswersTo   the answers to an input and the workspace after it: those to its script, from the fresh workspace on, each order by its
--               call's own contract with the names that the lines written rest on. An input of more than 65,536 bytes has no orders and one
--               answer, `refused 16 0`
--   Told        the book's answers to an input, cited names aside; `told_unique` of proofs/TellsLaws leaves one list of them
--   Printed     the bytes printed for an input
--   Finished    the workspace after an input, whatever names were cited
use Rattle.std.specs.Prelude.{◌≡◌, Bool, true, false, List, [], ◌∷◌, ◌++◌, map, ℕ, length, ltb}
use Rattle.graph.specs.State.{State, empty_state}
use Rattle.unifier.specs.Views.{Valid, packed, fresh_workspace}
use Rattle.unifier.specs.declared.Workspace.{Workspace}
use Rattle.eqtrace_orders.specs.Grammar.{orders_in}
use Rattle.eqtrace_answers.specs.Text.{Output, unreadable, text_of}
use Rattle.eqtrace_script.specs.Script.{input_limit, Script, script_of}
use Rattle.eqtrace_session.specs.Program.{forget, BookAnswersAll, Session}

abbrev pub texts_of : List Output → List ℕ
texts_of [] = []
texts_of (a ∷ answers) = text_of a ++ texts_of answers

abbrev pub script_in : List ℕ → Script
script_in input = script_of (orders_in input)

abbrev pub too_long : List ℕ → Bool
too_long input = ltb input_limit (length input)

abbrev pub AnswersBy : Bool → List ℕ → List Output → Workspace → Type 0
AnswersBy true input answers w = (answers ≡ unreadable 0 ∷ []) × (w ≡ fresh_workspace)
AnswersBy false input answers w = Session (script_in input).keep fresh_workspace (script_in input).first (script_in input).orders answers w

abbrev pub AnswersTo : List ℕ → List Output → Workspace → Type 0
AnswersTo input answers w = AnswersBy (too_long input) input answers w

abbrev pub ToldBy : Bool → List ℕ → List Output → State → Type 0
ToldBy true input answers s = (answers ≡ unreadable 0 ∷ []) × (s ≡ empty_state)
ToldBy false input answers s = BookAnswersAll (script_in input).keep empty_state (script_in input).first (script_in input).orders answers s

abbrev pub Told : List ℕ → List Output → State → Type 0
Told input answers s = ToldBy (too_long input) input answers s

pub record Printed (input output : List ℕ) (w : Workspace) : Type 0 where
  pub answers : List Output
  pub text : output ≡ texts_of answers
  pub given : AnswersTo input answers w
  -- names aside, they are the book's, and the workspace at the end has its two lists, with zero in unused places
  pub state : State
  pub told : Told input (map forget answers) state
  pub workspace : w ≡ packed state
  pub valid : Valid w

pub record Finished (input : List ℕ) (w : Workspace) : Type 0 where
  pub output : List ℕ
  pub printed : Printed input output w
