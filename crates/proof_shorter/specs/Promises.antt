-- What the calls promise: equations, on a workspace and on what is none.
--   told, Passing  a list's part of the reply: a refusal, or what comes after it
--   Chooses        the reply
--   Hands          the bytes handed back
use Rattle.std.specs.Prelude.{◌≡◌, List, [], ℕ, Result, Ok, Err}
use Rattle.std.proofs.Math.Option.{Option}
use Rattle.graph.specs.State.{Equation}
use Rattle.graph.specs.Goals.{Goal}
use Rattle.unifier.specs.Check.{check_reply}
use Rattle.unifier.specs.Views.{state_of, Valid}
use Rattle.unifier.specs.declared.Workspace.{Workspace}
use Rattle.proof_shorter.specs.Choice.{Choice, choice, refusal, or_else, shorter_reply, shorter_of}
use Rattle.proof_shorter.specs.declared.List.{List as Which}
use Rattle.proof_shorter.specs.declared.NoChoice.{NoChoice}

abbrev pub told : Result (Unit {0}) NoChoice → Choice → Choice
told (Ok u) c = c
told (Err n) c = choice (Err n)

pub record Passing (w : Workspace) (o : Option Equation) (g : Goal) (l : ℕ) (bytes : List ℕ) (r : Result (Unit {0}) NoChoice) : Type 0 where
  pub refuses : (Valid w → ⊥) → (c : Choice) → told r c ≡ refusal 1
  pub replies : Valid w → (c : Choice) → told r c ≡ or_else l (check_reply (state_of w) o g bytes) c

pub record Chooses (w : Workspace) (o : Option Equation) (g : Goal) (a b : List ℕ) (r : Result Which NoChoice) : Type 0 where
  pub refuses : (Valid w → ⊥) → choice r ≡ refusal 1
  pub replies : Valid w → choice r ≡ shorter_reply (state_of w) o g a b

pub record Hands (w : Workspace) (o : Option Equation) (g : Goal) (a b r : List ℕ) : Type 0 where
  pub refuses : (Valid w → ⊥) → r ≡ []
  pub hands : Valid w → r ≡ shorter_of (state_of w) o g a b
