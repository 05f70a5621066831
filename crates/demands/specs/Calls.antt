-- Lists of calls, and what the code may give back for them: the calls' own contracts and nothing else.
--   LentCall    a call, with all that is handed in beside the workspace; lent bytes as their list
--   Result      what it gives back
--   Ran         one call: the record that the method's `ensures` cites (specs/Tied takes each `ensures` here)
--   RanAll      a list: each call gets the workspace that the last one returned
--   fed         a call as the book is fed it: without the workspace, a proof buffer by its length
--   said_of     a reply as the book gives it, line counts aside
use Rattle.std.specs.Prelude.{◌≡◌, List, [], ◌∷◌, ℕ, length}
use Rattle.graph.specs.State.{variable, functor, Equation}
use Rattle.graph.specs.Book as book
use Rattle.unifier.specs.Views.{fresh_workspace}
use Rattle.unifier.specs.Replies.{said, node_number, is_held, is_gone}
use Rattle.unifier.specs.Answers.{Answers}
use Rattle.unifier.specs.Equate.{Equates}
use Rattle.unifier.specs.declared.Workspace.{Workspace}
use Rattle.unifier.specs.declared.Outcome.{Outcome}

pub data LentCall : Type 0 where
  declare_variable : LentCall
  declare_functor : (symbol : ℕ) (children : List ℕ) → LentCall
  equate : (e : Equation) (lent : List ℕ) → LentCall
  withdraw : (name : ℕ) → LentCall
  clear : LentCall

-- equate gives back the lent bytes too
pub data Result : Type 0 where
  numbered : Outcome ℕ → Result
  struck : Outcome (Unit {0}) → Result
  wrote : Outcome (Unit {0}) → List ℕ → Result
  cleared : Workspace → Result

abbrev pub workspace_in : Result → Workspace
workspace_in (numbered o) = o.workspace
workspace_in (struck o) = o.workspace
workspace_in (wrote o bytes) = o.workspace
workspace_in (cleared w) = w

pub data Ran (w : Workspace) : LentCall → Result → Type 0 where
  variable_declared : {o : Outcome ℕ} → Answers node_number w (book.declare variable) o → Ran w declare_variable (numbered o)
  functor_declared : {f : ℕ} {cs : List ℕ} {o : Outcome ℕ} → Answers node_number w (book.declare (functor f cs)) o → Ran w (declare_functor f cs) (numbered o)
  equation_offered : {e : Equation} {before after : List ℕ} {o : Outcome (Unit {0})} → Equates w e before after o → Ran w (equate e before) (wrote o after)
  withdrawn : {n : ℕ} {o : Outcome (Unit {0})} → Answers is_gone w (book.withdraw n) o → Ran w (withdraw n) (struck o)
  all_cleared : {v : Workspace} → v ≡ fresh_workspace → Ran w clear (cleared v)

pub data RanAll : Workspace → List LentCall → List Result → Type 0 where
  over : {w : Workspace} → RanAll w [] []
  next : {w : Workspace} {c : LentCall} {r : Result} {cs : List LentCall} {rs : List Result}
      → Ran w c r → RanAll (workspace_in r) cs rs → RanAll w (c ∷ cs) (r ∷ rs)

-- the workspace after the list
abbrev pub workspace_after : Workspace → List Result → Workspace
workspace_after w [] = w
workspace_after w (r ∷ rs) = workspace_after (workspace_in r) rs

abbrev pub fed : LentCall → book.Call
fed declare_variable = book.declare variable
fed (declare_functor f cs) = book.declare (functor f cs)
fed (equate e lent) = book.equate e (length lent)
fed (withdraw n) = book.withdraw n
fed clear = book.clear

abbrev pub said_of : Result → book.BookReply
said_of (numbered o) = said node_number o.reply
said_of (struck o) = said is_gone o.reply
said_of (wrote o bytes) = said is_held o.reply
said_of (cleared w) = book.cleared
