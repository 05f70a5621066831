-- The theorems are about the code: whatever a function's own `ensures` allows is a step of a run (`Ran`), or the record that the
-- theorem's reader knows the call by. `Post` is that clause as Rattle reads it from the source, over the arguments, the result and the
-- arguments at exit (of no use for a parameter by value); bytes that are lent are `now` of the reference, at entry and at exit.
-- A change of a method's contract that `Ran` doesn't follow is refused here.
--   Tied     fresh and the five calls of a list: declare both ways, equate, withdraw, clear
--   Beside   compare, class and check, which the book doesn't know
--   Files    proof files, the reader of a proof, the shorter of two
--   Stepwise an input's orders: what the theorem `Transcript` of eqtrace_session is about
use Rattle.std.specs.Prelude.{◌≡◌, List, ℕ, ◌/◌, length, Option, Result}
use contract.Lifetimes.{Lfts}
use Rattle.std.specs.Borrow.{Bor, MutBor}
use Rattle.graph.specs.State.{equation_of}
use Rattle.unifier.specs.Views.{fresh_workspace}
use Rattle.proof_rules.specs.Rules.{offer_of}
use Rattle.proof_check.specs.Answers.{goal_of}
use Rattle.unifier.specs.Compare.{Compares}
use Rattle.unifier.specs.Class.{Classifies}
use Rattle.unifier.specs.Check.{Checks}
use Rattle.unifier.specs.declared.Workspace.{Workspace}
use Rattle.unifier.specs.declared.Outcome.{Outcome}
use Rattle.refusals.specs.declared.Refusal.{Refusal}
use Rattle.solve_classes.specs.declared.Figures.{Figures}
use Rattle.unifier_respond.specs.declared.Standing.{Standing}
use Rattle.proof_rules.specs.declared.Offer.{Offer}
use Rattle.proof_check.specs.declared.GoalAsked.{GoalAsked}
use Rattle.proof_file.specs.File.{file_refusal, lines_in}
use Rattle.proof_file.specs.Promises.{read_reply, Writes}
use Rattle.proof_reader.specs.Read.{step_at}
use Rattle.proof_lines.specs.declared.Line.{Line}
use Rattle.proof_shorter.specs.Promises.{Chooses, Hands}
use Rattle.proof_shorter.specs.declared.List.{List as Which}
use Rattle.proof_shorter.specs.declared.NoChoice.{NoChoice}
use Rattle.eqtrace_session.specs.Steps.{beginning, Steps}
use Rattle.eqtrace_session.specs.declared.Cursor.{Cursor}
use Rattle.eqtrace_session.specs.declared.Stepped.{Stepped}
use Rattle.demands.specs.Calls as history
use Rattle.demands.specs.Calls.{Ran, declare_variable, declare_functor, equate, numbered, struck, wrote, cleared}
use Rattle.unifier.proofs.Workspace.fresh.Reads as fresh
use Rattle.unifier.proofs.Workspace.declare_variable.Reads as declare-variable
use Rattle.unifier.proofs.Workspace.declare_functor.Reads as declare-functor
use Rattle.unifier.proofs.Workspace.equate.Reads as equate-call
use Rattle.unifier.proofs.Workspace.withdraw.Reads as withdraw
use Rattle.unifier.proofs.Workspace.clear.Reads as clear
use Rattle.unifier.proofs.Workspace.compare.Reads as compare
use Rattle.unifier.proofs.Workspace.class_of.Reads as class_of
use Rattle.unifier.proofs.Workspace.check.Reads as check
use Rattle.proof_file.proofs.write.Reads as file-write
use Rattle.proof_file.proofs.read_reply.Reads as file-reply
use Rattle.proof_file.proofs.read.Reads as file-read
use Rattle.proof_reader.proofs.read_line.Reads as read-line
use Rattle.proof_reader.proofs.count_lines.Reads as count-lines
use Rattle.proof_shorter.proofs.shorter_reply.Reads as shorter-reply
use Rattle.proof_shorter.proofs.shorter.Reads as shorter
use Rattle.eqtrace_session.proofs.begin.Reads as begin
use Rattle.eqtrace_session.proofs.workspace.Reads as workspace
use Rattle.eqtrace_session.proofs.step.Reads as step

pub record Tied : Type 0 where
  pub starts : (v : Workspace) → fresh.Post tt tt v tt → v ≡ fresh_workspace
  pub declares_variable : (w : Workspace) (o : Outcome ℕ) (x : Workspace) → declare-variable.Post tt (w, tt) o (x, tt) → Ran w declare_variable (numbered o)
  pub declares_functor : (κs : Lfts 1) (w : Workspace) (f : ℕ) (cs : Bor (List ℕ)) (o : Outcome ℕ) (x : Workspace) (y : ℕ) (z : Bor (List ℕ))
      → declare-functor.Post κs (w, (f, (cs, tt))) o (x, (y, (z, tt))) → Ran w (declare_functor f cs.now) (numbered o)
  pub withdraws : (w : Workspace) (n : ℕ) (o : Outcome (Unit {0})) (x : Workspace) (y : ℕ) → withdraw.Post tt (w, (n, tt)) o (x, (y, tt)) → Ran w (history.withdraw n) (struck o)
  pub offers : (κs : Lfts 1) (w : Workspace) (n l r : ℕ) (lent : MutBor (List ℕ)) (o : Outcome (Unit {0})) (x : Workspace) (n' l' r' : ℕ) (left : MutBor (List ℕ))
      → equate-call.Post κs (w, (n, (l, (r, (lent, tt))))) o (x, (n', (l', (r', (left, tt))))) → Ran w (equate (equation_of n l r) lent.now) (wrote o left.now)
  pub clears : (w v x : Workspace) → clear.Post tt (w, tt) v (x, tt) → Ran w history.clear (cleared v)

pub record Beside : Type 0 where
  pub compares : (κs : Lfts 1) (w : Workspace) (u v : ℕ) (lent : MutBor (List ℕ)) (r : Outcome Standing) (x : Workspace) (u' v' : ℕ) (left : MutBor (List ℕ))
      → compare.Post κs (w, (u, (v, (lent, tt)))) r (x, (u', (v', (left, tt)))) → Compares w u v lent.now left.now r
  pub classifies : (w : Workspace) (u : ℕ) (r : Outcome Figures) (x : Workspace) (y : ℕ) → class_of.Post tt (w, (u, tt)) r (x, (y, tt)) → Classifies w u r
  pub checks : (κs : Lfts 1) (w : Workspace) (f : Option Offer) (lines : Bor (List ℕ)) (g : GoalAsked) (r : Outcome (Unit {0})) (x : Workspace) (y : Option Offer) (z : Bor (List ℕ)) (h : GoalAsked)
      → check.Post κs (w, (f, (lines, (g, tt)))) r (x, (y, (z, (h, tt)))) → Checks w (offer_of f) (goal_of g) lines.now r

pub record Files : Type 0 where
  pub writes : (κs : Lfts 2) (lines : Bor (List ℕ)) (out : MutBor (List ℕ)) (r : Result ℕ Refusal) (x : Bor (List ℕ)) (left : MutBor (List ℕ)) → file-write.Post κs (lines, (out, tt)) r (x, (left, tt))
      → Writes lines.now out.now left.now r
  pub replies : (κs : Lfts 1) (file : Bor (List ℕ)) (r : Result (Unit {0}) Refusal) (x : Bor (List ℕ)) → file-reply.Post κs (file, tt) r (x, tt) → r ≡ read_reply (file_refusal file.now)
  pub reads : (κs : Lfts 1) (file r x : Bor (List ℕ)) → file-read.Post κs (file, tt) r (x, tt) → r.now ≡ lines_in file.now
  pub reads_line : (κs : Lfts 1) (lines : Bor (List ℕ)) (at : ℕ) (r : Option Line × ℕ) (x : Bor (List ℕ)) (y : ℕ) → read-line.Post κs (lines, (at, tt)) r (x, (y, tt)) → r ≡ step_at lines.now at
  pub counts : (κs : Lfts 1) (lines : Bor (List ℕ)) (n : ℕ) (x : Bor (List ℕ)) → count-lines.Post κs (lines, tt) n (x, tt) → n ≡ length lines.now / 8
  pub chooses : (κs : Lfts 2) (w : Workspace) (f : Option Offer) (a b : Bor (List ℕ)) (g : GoalAsked) (r : Result Which NoChoice) (x : Workspace) (y : Option Offer) (z t : Bor (List ℕ)) (h : GoalAsked)
      → shorter-reply.Post κs (w, (f, (a, (b, (g, tt))))) r (x, (y, (z, (t, (h, tt))))) → Chooses w (offer_of f) (goal_of g) a.now b.now r
  pub hands : (κs : Lfts 1) (w : Workspace) (f : Option Offer) (a b : Bor (List ℕ)) (g : GoalAsked) (r : Bor (List ℕ)) (x : Workspace) (y : Option Offer) (z t : Bor (List ℕ)) (h : GoalAsked)
      → shorter.Post κs (w, (f, (a, (b, (g, tt))))) r (x, (y, (z, (t, (h, tt))))) → Hands w (offer_of f) (goal_of g) a.now b.now r.now

pub record Stepwise : Type 0 where
  pub begins : (κs : Lfts 1) (input : Bor (List ℕ)) (c : Cursor) (x : Bor (List ℕ)) → begin.Post κs (input, tt) c (x, tt) → c ≡ beginning input.now
  pub ends : (c : Cursor) (w : Workspace) (x : Cursor) → workspace.Post tt (c, tt) w (x, tt) → w ≡ c.workspace
  pub steps : (κs : Lfts 4) (c : Cursor) (input : Bor (List ℕ)) (proof names out : MutBor (List ℕ)) (r : Stepped) (x : Cursor) (y : Bor (List ℕ)) (proof' names' out' : MutBor (List ℕ))
      → step.Post κs (c, (input, (proof, (names, (out, tt))))) r (x, (y, (proof', (names', (out', tt))))) → Steps c input.now proof.now proof'.now out.now out'.now r
