-- Demand 3: the claim about every list of calls from the fresh workspace.
--   Shown          a proof as a call left it: the lines pass with the offered equation, and each rule-1 name in them is held in the book or offered
--   Agrees         one call: the reply and the workspace are the book's, and what it left in the lent bytes
--   AllAgree       each call of the list, beside the book's answers
--   Offerable      an offered equation that none of 5, 4, 6, 7 refuses
--   OfferDecided   its fate: taken with a solution, refused with a proof without one
--   Faithful       the claim about one list; Demand3 the claim about all
-- The book's run is unique: `runs_unique` of graph/proofs/BookLaws.
use Rattle.std.specs.Prelude.{◌≡◌, false, cond, List, [], ◌∷◌, map, ℕ, ◌*◌, ◌<◌, ◌≤◌, length, take, eqb, Result as Reply, Ok, Err}
use Rattle.std.proofs.Math.Option.{some}
use Rattle.graph.specs.Limits.{equation_limit, buffer_bytes}
use Rattle.graph.specs.State.{Equation, State, empty_state, name_held, IsNode, OneArity, offered}
use Rattle.graph.specs.Solution.{Solution}
use Rattle.graph.specs.Goals.{Goal, clash_goal, cycle_goal, passed, Cites}
use Rattle.graph.specs.Book as book
use Rattle.proof_lines.specs.Codec.{first_lines}
use Rattle.proof_lines.specs.Proof.{ProofIn}
use Rattle.unifier.specs.Views.{Valid, state_of, packed, fresh_workspace}
use Rattle.unifier.specs.Equate.{Equates}
use Rattle.unifier.specs.Check.{check_reply}
use Rattle.unifier.specs.declared.Outcome.{Outcome}
use Rattle.refusals.specs.Numbers.{refusal_number, Brought, nothing, proof, place, brings}
use Rattle.refusals.specs.declared.Refusal.{Refusal}
use Rattle.refusals.specs.declared.Refusal.TheVariants.{Clash, Cycle}
use Rattle.demands.specs.Calls.{LentCall, declare_variable, declare_functor, equate, withdraw, clear, Result, numbered, struck, wrote, cleared, RanAll, workspace_in, workspace_after, fed, said_of}

-- s is the book's state, e the offered equation. `checked`: what the call `check` replies to just these lines
pub record Shown (s : State) (e : Equation) (g : Goal) (n : ℕ) (before after : List ℕ) : Type 0 where
  pub proof : ProofIn (offered s e) g n before after
  pub checked : check_reply s (some e) g (take (8 * n) after) ≡ passed
  pub cites : Cites (offered s e) (first_lines n after)

-- k is a refusal's number
abbrev pub ShownBeside : State → Equation → List ℕ → List ℕ → ℕ → Brought → Type 0
ShownBeside s e before after k nothing = (after ≡ before) × (k < 8)
ShownBeside s e before after k (proof n) = Shown s e (cond (eqb k 8) clash_goal cycle_goal) n before after
ShownBeside s e before after k (place i) = ⊥

abbrev pub ShownBy : State → Equation → List ℕ → List ℕ → Reply (Unit {0}) Refusal → Type 0
ShownBy s e before after (Ok u) = after ≡ before
ShownBy s e before after (Err r) = ShownBeside s e before after (refusal_number r) (brings r)

abbrev pub Wrote : State → Equation → List ℕ → Result → Type 0
Wrote s e before (wrote o after) = ShownBy s e before after o.reply
Wrote s e before (numbered o) = ⊥
Wrote s e before (struck o) = ⊥
Wrote s e before (cleared w) = ⊥

-- an equate gives back the lent bytes, with a proof in them where it says 8 or 9
abbrev pub Proved : State → LentCall → Result → Type 0
Proved s (equate e before) r = Wrote s e before r
Proved s declare_variable r = Unit {0}
Proved s (declare_functor f cs) r = Unit {0}
Proved s (withdraw n) r = Unit {0}
Proved s clear r = Unit {0}

-- s is the book's state before the call, a the book's answer to it
pub record Agrees (s : State) (c : LentCall) (r : Result) (a : book.Transition) : Type 0 where
  pub reply : said_of r ≡ a.reply
  -- the book's two lists in order, and zero in unused places
  pub workspace : workspace_in r ≡ packed a.state
  pub lists : state_of (workspace_in r) ≡ a.state
  pub valid : Valid (workspace_in r)
  pub proved : Proved s c r

pub data AllAgree : State → List LentCall → List Result → List book.Transition → Type 0 where
  none_left : {s : State} → AllAgree s [] [] []
  one_more : {s : State} {c : LentCall} {r : Result} {a : book.Transition} {cs : List LentCall} {rs : List Result} {bs : List book.Transition}
      → Agrees s c r a → AllAgree a.state cs rs bs → AllAgree s (c ∷ cs) (r ∷ rs) (a ∷ bs)

pub record Offerable (s : State) (e : Equation) (lent : List ℕ) : Type 0 where
  pub left_known : IsNode s e.left
  pub right_known : IsNode s e.right
  pub new : name_held e.name s.equations ≡ false
  pub few : length s.equations < equation_limit
  pub buffer : buffer_bytes ≤ length lent

pub data OfferDecided (s : State) (e : Equation) (before after : List ℕ) : Reply (Unit {0}) Refusal → Type 0 where
  taken : Solution (offered s e) → OfferDecided s e before after (Ok tt)
  clash : {n : ℕ} → (Solution (offered s e) → ⊥) → Shown s e clash_goal n before after → OfferDecided s e before after (Err (Clash n))
  cycle : {n : ℕ} → (Solution (offered s e) → ⊥) → Shown s e cycle_goal n before after → OfferDecided s e before after (Err (Cycle n))

pub record Faithful (calls : List LentCall) (results : List Result) : Type 0 where
  -- the book's answers to the calls, and its two lists after them
  pub answers : List book.Transition
  pub state : State
  pub runs : book.Runs empty_state (map fed calls) answers state
  pub agree : AllAgree empty_state calls results answers
  -- so after the list too, an empty one included
  pub workspace : workspace_after fresh_workspace results ≡ packed state
  pub lists : state_of (workspace_after fresh_workspace results) ≡ state
  pub valid : Valid (workspace_after fresh_workspace results)
  pub solvable : Solution state
  -- functor nodes of one symbol have equally many children
  pub one_arity : OneArity state.nodes
  -- one more offered equation
  pub decides : (e : Equation) (before after : List ℕ) (o : Outcome (Unit {0}))
      → Offerable state e before → Equates (workspace_after fresh_workspace results) e before after o → OfferDecided state e before after o.reply

abbrev pub Demand3 : Type 0
Demand3 = (calls : List LentCall) (results : List Result) → RanAll fresh_workspace calls results → Faithful calls results
