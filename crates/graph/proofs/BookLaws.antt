-- The book's reply to a call, and to a list of calls, is one.
use mathlib.Core.Path.{◌≡◌, refl}
use mathlib.Core.List.{List}
use mathlib.Core.Option.{Option, none, some}
use Prim.Native.Nat.{ℕ}
use Rattle.graph.specs.State.{State, offered}
use Rattle.graph.specs.Book.{Call, declare, equate, withdraw, clear, Transition, early, Late, Else, Refusal, answer, Runs, over, step}
use Rattle.graph.proofs.SolutionLaws.{verdict_unique}

late_unique : (s : State) (c : Call) (k m : ℕ) → Late s c k → Late s c m → k ≡ m
late_unique s (declare n) k m p q = cc
late_unique s (equate e room) k m p q = verdict_unique (offered s e) p q
late_unique s (withdraw n) k m p q = cc
late_unique s clear k m p q = cc

else_unique : (o : Option ℕ) (L : ℕ → Type 0) → ((k m : ℕ) → L k → L m → k ≡ m) → (k m : ℕ) → Else o L k → Else o L m → k ≡ m
else_unique none L f k m p q = f k m p q
else_unique (some n) L f k m p q = cc

pub refusal_unique : (s : State) (c : Call) (k m : ℕ) → Refusal s c k → Refusal s c m → k ≡ m
refusal_unique s c = else_unique (early s c) (Late s c) (late_unique s c)

-- so a call has one answer: reply and lists
pub answer_unique : (s : State) (c : Call) (k m : ℕ) → Refusal s c k → Refusal s c m → answer s c k ≡ answer s c m
answer_unique s c k m p q = rw (refusal_unique s c k m p q)

-- a list of calls has one list of answers, and leads to one state
pub runs_unique : {s d e : State} {cs : List Call} {rs qs : List Transition} → Runs s cs rs d → Runs s cs qs e → (rs ≡ qs) × (d ≡ e)
runs_unique over over = (refl, refl)
runs_unique (step {s} {d} {c} k v r) (step m w q) =
    let e : m ≡ k = refusal_unique s c m k w v in
    let z = runs_unique r (rw e at q) in
    (rw (e, z.0), z.1)
