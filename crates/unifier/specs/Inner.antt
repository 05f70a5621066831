-- What the calls' inner functions ask of each other.
--   Examining  what every call begins with: the class table of a workspace and its trace, or refusal 1
--   Classed    a workspace and the class table of its closure
--   equation_in   the equation that an offer offers
--   Early      the first refusal that the two lists decide, where they decide one: it brings nothing
--   Offering   a solved workspace, and an equation that none of 5, 4, 6 and 7 refuses
--   Refuted    such a one, and the verdict on held and offered equations together
--   Settles    equate's reply; the workspace after it is `space_after`
--   Asked, Questioned   refusal 4 or 6 of an offer and a goal, or what the checker judges
use Rattle.std.specs.Prelude.{◌≡◌, List, ℕ, ◌<◌, true, Result, Ok, Err}
use Rattle.std.proofs.Math.Option.{Option, none, some}
use Rattle.graph.specs.Limits.{equation_limit}
use Rattle.graph.specs.State.{Equation, equation_of, offered, with_offer}
use Rattle.graph.specs.Goals.{Goal}
use Rattle.graph.specs.Book as book
use Rattle.solve_classes.specs.Table.{Table}
use Rattle.solve_classes.specs.Exact.{Exact}
use Rattle.solve_classes.specs.Members.{Alone}
use Rattle.solve_trace.specs.declared.Entry.{Entry}
use Rattle.solve.specs.Decided.{LeftOver, Decided}
use Rattle.solve.specs.declared.SolveResult.{SolveResult}
use Rattle.proof_rules.specs.Rules.{offer_below}
use Rattle.proof_rules.specs.declared.Offer.{Offer}
use Rattle.proof_check.specs.Answers.{judged_as, answer_to}
use Rattle.refusals.specs.Numbers.{refusal_number, nothing, brings}
use Rattle.refusals.specs.declared.Refusal.{Refusal}
use Rattle.refusals.specs.declared.Refusal.TheVariants.{NotAWorkspace}
use Rattle.unifier_examine.specs.Examines.{Solved}
use Rattle.store.specs.Shape.{Shape}
use Rattle.store.specs.Operations.{with_equation}
use Rattle.unifier.specs.Views.{workspace_of, state_of, Valid}
use Rattle.unifier.specs.Replies.{outcome}
use Rattle.unifier.specs.Equate.{Equates}
use Rattle.unifier.specs.Check.{check_reply}
use Rattle.unifier.specs.declared.Workspace.{Workspace}

abbrev pub Examining : Workspace → List Entry → Result (List ℕ) Refusal → Type 0
Examining w trace (Ok table) = Solved w.terms w.equations table trace
Examining w trace (Err r) = (r ≡ NotAWorkspace) × (Valid w → ⊥)

pub record Classed (w : Workspace) (t : List ℕ) : Type 0 where
  pub valid : Valid w
  pub table : Table t
  pub exact : Exact (state_of w) t
  -- nodes that aren't declared are alone
  pub alone : Alone w.terms.count t

abbrev pub equation_in : Offer → Equation
equation_in o = equation_of o.name o.left o.right

abbrev pub Early : Option ℕ → Result (Unit {0}) Refusal → Type 0
Early o (Ok u) = o ≡ none
Early o (Err r) = (o ≡ some (refusal_number r)) × ((brings r ≡ nothing) × (refusal_number r < 8))

-- the offer and the goal are well, and the checker answers
pub record Asked (w : Workspace) (o : Option Equation) (g : Goal) : Type 0 where
  pub known : offer_below w.terms.count o ≡ true
  pub judged : (bytes : List ℕ) → answer_to (with_offer (state_of w) o) g bytes ≡ check_reply (state_of w) o g bytes

abbrev pub Questioned : Workspace → Option Equation → Goal → Result (Unit {0}) Refusal → Type 0
Questioned w o g (Ok u) = Asked w o g
Questioned w o g (Err r) = (bytes : List ℕ) → judged_as (Err r) ≡ check_reply (state_of w) o g bytes

pub record Offering (w : Workspace) (e : Equation) (room : ℕ) (table : List ℕ) (trace : List Entry) : Type 0 where
  pub solved : Solved w.terms w.equations table trace
  pub past : book.early (state_of w) (book.equate e room) ≡ none

-- a workspace, an equation that none of 5, 4, 6 and 7 refuses, and the verdict on both together
pub record Refuted (w : Workspace) (e : Equation) (room : ℕ) (o : SolveResult) (trace : List Entry) : Type 0 where
  pub valid : Valid w
  pub past : book.early (state_of w) (book.equate e room) ≡ none
  pub decided : Decided (offered (state_of w) e) o trace
  pub left_over : LeftOver w.terms o.table o.heights o.verdict

-- ---- what equate replies, and does

-- the equation is put at the end where it is held
abbrev pub space_after : Workspace → Equation → Result (Unit {0}) Refusal → Workspace
space_after w e (Ok u) = workspace_of w.terms (with_equation w.equations e.name e.left e.right)
space_after w e (Err r) = w

-- there is a place for the equation, and its ends are known nodes
pub record PlaceFor (w : Workspace) (e : Equation) : Type 0 where
  pub shape : Shape w.terms w.equations
  pub few : w.equations.count < equation_limit
  pub left_known : e.left < w.terms.count
  pub right_known : e.right < w.terms.count

abbrev pub PlaceGiven : Workspace → Equation → Result (Unit {0}) Refusal → Type 0
PlaceGiven w e (Ok u) = PlaceFor w e
PlaceGiven w e (Err r) = Unit {0}

pub record Settles (w : Workspace) (e : Equation) (before after : List ℕ) (r : Result (Unit {0}) Refusal) : Type 0 where
  pub equates : Equates w e before after (outcome r (space_after w e r))
  pub place : PlaceGiven w e r
