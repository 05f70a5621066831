-- No call asks anything of its caller: each public function's own `requires`, as Rattle reads it from the source, holds of any arguments.
use mathlib.Core.List.{List}
use Prim.Native.Nat.{ℕ}
use contract.Lifetimes.{Lfts}
use denote.Ref.{Bor}
use denote.MutBor.{MutBor}
use Rattle.unifier.specs.declared.Workspace.{Workspace}
use Rattle.std.specs.Prelude.{Option}
use Rattle.proof_rules.specs.declared.Offer.{Offer}
use Rattle.proof_check.specs.declared.GoalAsked.{GoalAsked}
use Rattle.unifier.proofs.Workspace.fresh.Reads as fresh
use Rattle.unifier.proofs.Workspace.declare_variable.Reads as declare-variable
use Rattle.unifier.proofs.Workspace.declare_functor.Reads as declare-functor
use Rattle.unifier.proofs.Workspace.equate.Reads as equate
use Rattle.unifier.proofs.Workspace.withdraw.Reads as withdraw
use Rattle.unifier.proofs.Workspace.clear.Reads as clear
use Rattle.unifier.proofs.Workspace.compare.Reads as compare
use Rattle.unifier.proofs.Workspace.class_of.Reads as class_of
use Rattle.unifier.proofs.Workspace.check.Reads as check

pub record Free : Type 0 where
  pub starts : fresh.Pre tt tt
  pub declares_variable : (w : Workspace) → declare-variable.Pre tt (w, tt)
  pub declares_functor : (κs : Lfts 1) (w : Workspace) (f : ℕ) (cs : Bor (List ℕ)) → declare-functor.Pre κs (w, (f, (cs, tt)))
  pub withdraws : (w : Workspace) (n : ℕ) → withdraw.Pre tt (w, (n, tt))
  pub equates : (κs : Lfts 1) (w : Workspace) (n l r : ℕ) (lent : MutBor (List ℕ)) → equate.Pre κs (w, (n, (l, (r, (lent, tt)))))
  pub clears : (w : Workspace) → clear.Pre tt (w, tt)
  pub compares : (κs : Lfts 1) (w : Workspace) (u v : ℕ) (lent : MutBor (List ℕ)) → compare.Pre κs (w, (u, (v, (lent, tt))))
  pub classifies : (w : Workspace) (u : ℕ) → class_of.Pre tt (w, (u, tt))
  pub checks : (κs : Lfts 1) (w : Workspace) (f : Option Offer) (lines : Bor (List ℕ)) (g : GoalAsked) → check.Pre κs (w, (f, (lines, (g, tt))))

pub free : Free
free = record {
  starts = tt;
  declares_variable = λ w. tt;
  declares_functor = λ κs w f cs. tt;
  withdraws = λ w n. tt;
  equates = λ κs w n l r lent. tt;
  clears = λ w. tt;
  compares = λ κs w u v lent. tt;
  classifies = λ w u. tt;
  checks = λ κs w f lines g. tt;
}
