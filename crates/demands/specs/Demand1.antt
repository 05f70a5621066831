-- Demand 1 about the calls: whoever calls gets a reply, a refusal has its number in its case alone, and leaves workspace and buffers.
-- That a call ends is part of what Rattle proves of every function.
--   Refuses      a reply that refuses, 8 and 9 among them
--   Away         a value that is no workspace: refusal 1 from every call but clear, and nothing changed
--   Unchanged    a workspace: a refusal leaves it, and the lent bytes but for the lines of 8 and 9
--   OneReply     a call on a workspace has one reply, line counts aside (`uncounted`, `uncounted_stance`), and leaves one workspace
--   FromCheck, FromShorter   values of the results of check and of shorter-of-two, all that these give among them: of check all that bring no
--                lines of a proof, of shorter-of-two without a list all that bring nothing
--   OneValue     of check and of shorter-of-two each reply is one value of the result, and that value says one reply
use Rattle.std.specs.Prelude.{◌≡◌, cond, List, ℕ, eqb, Result, Ok, Err, Some, None}
use Rattle.std.specs.declared.option.Option.{Option as Optional}
use Rattle.std.proofs.Math.Option.{Option}
use Rattle.graph.specs.State.{Node as GraphNode, Equation, State}
use Rattle.graph.specs.Goals.{Goal, Judgement, refused}
use Rattle.graph.specs.Book as book
use Rattle.refusals.specs.Numbers.{refusal_number, Brought, nothing, proof, place, brings}
use Rattle.refusals.specs.declared.Refusal.{Refusal}
use Rattle.refusals.specs.declared.Refusal.TheVariants.{NotAWorkspace, Clash, Cycle}
use Rattle.solve_classes.specs.declared.Figures.{Figures}
use Rattle.proof_check.specs.Answers.{judged_as}
use Rattle.unifier_respond.specs.declared.Standing.{Standing}
use Rattle.unifier_respond.specs.declared.Standing.TheVariants as stands
use Rattle.unifier.specs.Views.{Valid}
use Rattle.unifier.specs.Replies.{node_number, is_gone, outcome}
use Rattle.unifier.specs.Answers.{Answers}
use Rattle.unifier.specs.Equate.{Equates}
use Rattle.unifier.specs.Compare.{Compares}
use Rattle.unifier.specs.Class.{Classifies}
use Rattle.unifier.specs.Check.{check_reply, Checks}
use Rattle.unifier.specs.declared.Workspace.{Workspace}
use Rattle.unifier.specs.declared.Outcome.{Outcome}
use Rattle.proof_file.specs.Promises.{Writes}
use Rattle.proof_shorter.specs.Choice.{Choice, choice, refusal, shorter_reply}
use Rattle.proof_shorter.specs.Promises.{Chooses}
use Rattle.proof_shorter.specs.declared.List.{List as Which}
use Rattle.proof_shorter.specs.declared.NoChoice.{NoChoice}
use Rattle.unifier.proofs.Free as calls
use Rattle.proof_file.proofs.Free as files
use Rattle.proof_reader.proofs.Free as reader
use Rattle.proof_shorter.proofs.Free as shorter
use Rattle.eqtrace_session.proofs.Free as steps

abbrev pub Refuses : {A : Type 0} → Result A Refusal → Type 0
Refuses (Ok a) = ⊥
Refuses (Err k) = Unit {0}

pub record Away (w : Workspace) : Type 1 where
  pub answers : {A : Type 0} (says : A → book.BookReply) (c : book.Call) (r : Outcome A) → Answers says w c r → r ≡ outcome (Err NotAWorkspace) w
  pub equates : (e : Equation) (before after : List ℕ) (r : Outcome (Unit {0})) → Equates w e before after r → (r ≡ outcome (Err NotAWorkspace) w) × (after ≡ before)
  pub compares : (u v : ℕ) (before after : List ℕ) (r : Outcome Standing) → Compares w u v before after r → (r ≡ outcome (Err NotAWorkspace) w) × (after ≡ before)
  pub classifies : (u : ℕ) (r : Outcome Figures) → Classifies w u r → r ≡ outcome (Err NotAWorkspace) w
  pub checks : (o : Option Equation) (g : Goal) (bytes : List ℕ) (r : Outcome (Unit {0})) → Checks w o g bytes r → r ≡ outcome (Err NotAWorkspace) w

pub record Unchanged (w : Workspace) : Type 1 where
  pub answers : {A : Type 0} (says : A → book.BookReply) (c : book.Call) (r : Outcome A) → Answers says w c r → Refuses r.reply → r.workspace ≡ w
  -- any refusal but a clash or a cycle
  pub equates : (e : Equation) (before after : List ℕ) (r : Outcome (Unit {0})) (k : Refusal) → Equates w e before after r → r.reply ≡ Err k
      → (refusal_number k ≡ 8 → ⊥) → (refusal_number k ≡ 9 → ⊥) → after ≡ before
  -- refused or not
  pub compares : (u v : ℕ) (before after : List ℕ) (r : Outcome Standing) → Compares w u v before after r → r.workspace ≡ w
  pub compare_bytes : (u v : ℕ) (before after : List ℕ) (r : Outcome Standing) → Compares w u v before after r → Refuses r.reply → after ≡ before
  pub classifies : (u : ℕ) (r : Outcome Figures) → Classifies w u r → r.workspace ≡ w
  pub checks : (o : Option Equation) (g : Goal) (bytes : List ℕ) (r : Outcome (Unit {0})) → Checks w o g bytes r → r.workspace ≡ w

-- without the number of a proof's lines
abbrev pub bare : Refusal → Refusal
bare r = cond (eqb (refusal_number r) 8) (Clash 0) (cond (eqb (refusal_number r) 9) (Cycle 0) r)

abbrev pub uncounted : Result (Unit {0}) Refusal → Result (Unit {0}) Refusal
uncounted (Ok u) = Ok u
uncounted (Err r) = Err (bare r)

abbrev pub uncounted_stance : Result Standing Refusal → Result Standing Refusal
uncounted_stance (Ok (stands.Same n)) = Ok (stands.Same 0)
uncounted_stance (Ok (stands.Below n)) = Ok (stands.Below 0)
uncounted_stance (Ok (stands.Above n)) = Ok (stands.Above 0)
uncounted_stance (Ok stands.Apart) = Ok stands.Apart
uncounted_stance (Err k) = Err k

pub record OneReply (w : Workspace) : Type 0 where
  pub declares : (n : GraphNode) (r q : Outcome ℕ) → Answers node_number w (book.declare n) r → Answers node_number w (book.declare n) q → r ≡ q
  pub withdraws : (n : ℕ) (r q : Outcome (Unit {0})) → Answers is_gone w (book.withdraw n) r → Answers is_gone w (book.withdraw n) q → r ≡ q
  pub equates : (e : Equation) (before after left : List ℕ) (r q : Outcome (Unit {0})) → Equates w e before after r → Equates w e before left q
      → (uncounted r.reply ≡ uncounted q.reply) × (r.workspace ≡ q.workspace)
  pub compares : (u v : ℕ) (before after left : List ℕ) (r q : Outcome Standing) → Compares w u v before after r → Compares w u v before left q
      → uncounted_stance r.reply ≡ uncounted_stance q.reply
  pub classifies : (u : ℕ) (r q : Outcome Figures) → Classifies w u r → Classifies w u q → r ≡ q
  pub checks : (o : Option Equation) (g : Goal) (bytes : List ℕ) (r q : Outcome (Unit {0})) → Checks w o g bytes r → Checks w o g bytes q → r ≡ q

-- clash and cycle bring lines of a proof, and are equate's alone
abbrev pub NoProof : Brought → Type 0
NoProof nothing = Unit {0}
NoProof (proof n) = ⊥
NoProof (place i) = Unit {0}

abbrev pub FromCheck : Result (Unit {0}) Refusal → Type 0
FromCheck (Ok u) = Unit {0}
FromCheck (Err r) = NoProof (brings r)

-- a refusal that names no list brings no line of it either
abbrev pub ForList : Optional Which → Brought → Type 0
ForList None b = b ≡ nothing
ForList (Some l) b = NoProof b

abbrev pub FromShorter : Result Which NoChoice → Type 0
FromShorter (Ok l) = Unit {0}
FromShorter (Err n) = ForList n.list (brings n.refusal)

-- what is replied to a judgement, and to a choice, is one value, and that value says just it; of what is no workspace, refusal 1.
-- `check_one`, `choice_one`: of `FromCheck` and `FromShorter` each value, whether a call gives it or not, is the only one that says what it says
pub record OneValue : Type 0 where
  pub checked_as : Judgement → Result (Unit {0}) Refusal
  pub check_there : (s : State) (o : Option Equation) (g : Goal) (bytes : List ℕ) (r : Result (Unit {0}) Refusal) → judged_as r ≡ check_reply s o g bytes
      → checked_as (check_reply s o g bytes) ≡ r
  pub no_check_there : (r : Result (Unit {0}) Refusal) → judged_as r ≡ refused 1 → checked_as (refused 1) ≡ r
  pub check_back : (s : State) (o : Option Equation) (g : Goal) (bytes : List ℕ) → judged_as (checked_as (check_reply s o g bytes)) ≡ check_reply s o g bytes
  pub check_one : (r : Result (Unit {0}) Refusal) → FromCheck r → checked_as (judged_as r) ≡ r
  pub check_says : (r : Result (Unit {0}) Refusal) (j : Judgement) → FromCheck r → judged_as r ≡ j → judged_as (checked_as j) ≡ j
  pub check_gives : (w : Workspace) (o : Option Equation) (g : Goal) (bytes : List ℕ) (r : Outcome (Unit {0})) → Checks w o g bytes r → FromCheck r.reply
  pub chosen_as : Choice → Result Which NoChoice
  pub choice_there : (s : State) (o : Option Equation) (g : Goal) (a b : List ℕ) (r : Result Which NoChoice) → choice r ≡ shorter_reply s o g a b
      → chosen_as (shorter_reply s o g a b) ≡ r
  pub no_choice_there : (r : Result Which NoChoice) → choice r ≡ refusal 1 → chosen_as (refusal 1) ≡ r
  pub choice_back : (s : State) (o : Option Equation) (g : Goal) (a b : List ℕ) → choice (chosen_as (shorter_reply s o g a b)) ≡ shorter_reply s o g a b
  pub choice_one : (r : Result Which NoChoice) → FromShorter r → chosen_as (choice r) ≡ r
  pub choice_says : (r : Result Which NoChoice) (c : Choice) → FromShorter r → choice r ≡ c → choice (chosen_as c) ≡ c
  pub choice_gives : (w : Workspace) (o : Option Equation) (g : Goal) (a b : List ℕ) (r : Result Which NoChoice) → Chooses w o g a b r → FromShorter r

pub record Demand1 : Type 1 where
  -- no public function has a `requires`: stated beside the functions, in each crate's proofs/Free
  pub free_calls : calls.Free
  pub free_files : files.Free
  pub free_reader : reader.Free
  pub free_shorter : shorter.Free
  pub free_steps : steps.Free
  pub away : (w : Workspace) → (Valid w → ⊥) → Away w
  pub unchanged : (w : Workspace) → Valid w → Unchanged w
  pub file_unchanged : (lines before after : List ℕ) (r : Result ℕ Refusal) → Writes lines before after r → Refuses r → after ≡ before
  pub one_reply : (w : Workspace) → Valid w → OneReply w
  pub one_value : OneValue
