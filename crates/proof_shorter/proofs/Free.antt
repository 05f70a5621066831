-- No call asks anything of its caller: each public function's own `requires`, as Rattle reads it from the source, holds of any arguments.
use mathlib.Core.List.{List}
use Prim.Native.Nat.{ℕ}
use contract.Lifetimes.{Lfts}
use denote.Ref.{Bor}
use Rattle.unifier.specs.declared.Workspace.{Workspace}
use Rattle.std.specs.Prelude.{Option}
use Rattle.proof_rules.specs.declared.Offer.{Offer}
use Rattle.proof_check.specs.declared.GoalAsked.{GoalAsked}
use Rattle.proof_shorter.proofs.shorter_reply.Reads as shorter-reply
use Rattle.proof_shorter.proofs.shorter.Reads as shorter

pub record Free : Type 0 where
  pub chooses : (κs : Lfts 2) (w : Workspace) (f : Option Offer) (a b : Bor (List ℕ)) (g : GoalAsked) → shorter-reply.Pre κs (w, (f, (a, (b, (g, tt)))))
  pub hands : (κs : Lfts 1) (w : Workspace) (f : Option Offer) (a b : Bor (List ℕ)) (g : GoalAsked) → shorter.Pre κs (w, (f, (a, (b, (g, tt)))))

pub free : Free
free = record { chooses = λ κs w f a b g. tt; hands = λ κs w f a b g. tt }
