-- What equate promises: the book's answer, and what it leaves in the lent buffer.
--   LeftBehind   what a refusal leaves: a clash or a cycle a proof of it that passes with the offered equation, any other the bytes
--   Written      what a reply leaves
use Rattle.std.specs.Prelude.{◌≡◌, cond, List, ℕ, ◌<◌, length, eqb, Result, Ok, Err}
use Rattle.graph.specs.State.{State, Equation, offered}
use Rattle.graph.specs.Goals.{clash_goal, cycle_goal}
use Rattle.graph.specs.Book as book
use Rattle.proof_lines.specs.Proof.{ProofIn}
use Rattle.refusals.specs.Numbers.{refusal_number, Brought, nothing, proof, place, brings}
use Rattle.refusals.specs.declared.Refusal.{Refusal}
use Rattle.unifier.specs.Views.{state_of}
use Rattle.unifier.specs.Replies.{is_held}
use Rattle.unifier.specs.Answers.{Answers}
use Rattle.unifier.specs.declared.Workspace.{Workspace}
use Rattle.unifier.specs.declared.Outcome.{Outcome}

-- s is the state with the offered equation, k the refusal's number; 8 and 9 come with their proofs only
abbrev pub LeftBehind : State → List ℕ → List ℕ → ℕ → Brought → Type 0
LeftBehind s before after k nothing = (after ≡ before) × (k < 8)
LeftBehind s before after k (proof n) = ProofIn s (cond (eqb k 8) clash_goal cycle_goal) n before after
LeftBehind s before after k (place i) = ⊥

abbrev pub Written : State → List ℕ → List ℕ → Result (Unit {0}) Refusal → Type 0
Written s before after (Ok u) = after ≡ before
Written s before after (Err r) = LeftBehind s before after (refusal_number r) (brings r)

pub record Equates (w : Workspace) (e : Equation) (before after : List ℕ) (r : Outcome (Unit {0})) : Type 0 where
  pub answers : Answers is_held w (book.equate e (length before)) r
  pub written : Written (offered (state_of w) e) before after r.reply
