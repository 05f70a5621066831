-- Demand 2 about the calls, from their contracts.
use mathlib.Core.Path.{◌≡◌, sym, ap, ◌∙◌}
use mathlib.Core.Bool.{Bool, true, false, ◌&&◌, cond}
use mathlib.Core.List.{List}
use mathlib.Core.Option.{Option, none, some}
use Prim.Native.Nat.{ℕ, ◌*◌, ◌≤◌}
use native.Mathlib.Omega.{arith}
use lib.ListN.{length, take}
use lib.Dec.{ltb}
use borrow.Author.Tests.{ltb-false}
use Rattle.graph.specs.Limits.{buffer_bytes}
use Rattle.graph.specs.State.{State, Equation, with_offer}
use Rattle.graph.specs.Closure.{Below, symmetry, below_same, below_below}
use Rattle.graph.specs.Goals.{Goal, same_goal, below_goal, passed, refused}
use Rattle.graph.proofs.SolutionLaws.{solution_no_cycle}
use Rattle.proof_lines.specs.Proof.{ProofIn}
use Rattle.proof_check.specs.Answers.{answer_to}
use Rattle.proof_check.proofs.AnswerLaws.{proof_passes, check_sound, check_cites}
use Rattle.store.proofs.ViewLaws.{shape_proper}
use Rattle.unifier.specs.Views.{Valid, state_of}
use Rattle.std.specs.Prelude.{Result, Ok, Err}
use Rattle.refusals.specs.declared.Refusal.{Refusal}
use Rattle.unifier.proofs.CheckLaws.{check_listed, judged_one}
use Rattle.proof_check.specs.Answers.{judged_as}
use Rattle.unifier.specs.Compare.{refusal_of, StandsAs, Stands}
use Rattle.unifier.specs.Compare as compare
use Rattle.proof_rules.specs.Rules.{offer_below}
use Rattle.unifier.specs.Check.{goal_below, offer_new, check_reply}
use Rattle.unifier.specs.declared.Workspace.{Workspace}
use Rattle.unifier_respond.specs.declared.Standing.{Standing}
use Rattle.unifier_respond.specs.declared.Standing.TheVariants as says
use Rattle.demands.specs.Demand2.{PassesCheck, Reports, Demand2}

-- a call that isn't refused
record Known (s : State) (u v size : ℕ) : Type 0 where
  pub room : buffer_bytes ≤ size
  pub left : ltb u (length s.nodes) ≡ true
  pub right : ltb v (length s.nodes) ≡ true

known : (s : State) (u v room : ℕ) → refusal_of s u v room ≡ none → Known s u v room
known s u v room h =
    let p = go (ltb room buffer_bytes) (ltb u (length s.nodes)) (ltb v (length s.nodes)) h in
    record { room = ltb-false room buffer_bytes p.0; left = p.1; right = p.2 }
  where
    go : (x y z : Bool) → cond {A = Option ℕ} x (some 5) (cond (y && z) none (some 4)) ≡ none → (x ≡ false) × (y ≡ true) × (z ≡ true)
    go x y z q = grind arith

-- with nothing offered, the checker's own answer
unoffered : (s : State) (g : Goal) (bytes : List ℕ) → goal_below (length s.nodes) g ≡ true → check_reply s none g bytes ≡ answer_to s g bytes
unfolding check_reply
unoffered s g bytes h = rw h

module _ (w : Workspace) (u v : ℕ) (before after : List ℕ) (ok : Valid w) (k : Known (state_of w) u v (length before)) where
  passes : (g : Goal) (n : ℕ) → goal_below (length (state_of w).nodes) g ≡ true → ProofIn (state_of w) g n before after → PassesCheck w g n after
  passes g n h p r C =
      let e : check_reply (state_of w) none g (take (8 * n) after) ≡ passed =
      unoffered (state_of w) g (take (8 * n) after) h ∙ proof_passes (state_of w) g n before after p (omega (arith, p.kept.size, p.few, k.room)) in
      judged_one r.reply (Ok tt) (check_reply (state_of w) none g (take (8 * n) after)) (check_listed (state_of w) none g (take (8 * n) after)) (C.replies ok) (sym e)

  no_cycle : (x : ℕ) → Below (state_of w) x x → ⊥
  no_cycle x b = solution_no_cycle (state_of w) (shape_proper w.terms w.equations ok.shape) ok.solution (record { u = x; back = b })

  exact : (r : Result Standing Refusal) → StandsAs (state_of w) u v before after r → Reports w u v after r
  exact (Ok (says.Same n)) (compare.same p q) = record {
    same = (λ x. p, λ x. tt);
    below = (λ x. absurd x, λ b. no_cycle u (below_same b (symmetry p)));
    above = (λ x. absurd x, λ b. no_cycle v (below_same b p));
    proved = passes (same_goal u v) n (rw (k.left, k.right)) q;
  }
  exact (Ok (says.Below n)) (compare.below d p q) = record {
    same = (λ x. absurd x, λ b. d b);
    below = (λ x. p, λ b. tt);
    above = (λ x. absurd x, λ b. no_cycle u (below_below p b));
    proved = passes (below_goal u v) n (rw (k.left, k.right)) q;
  }
  exact (Ok (says.Above n)) (compare.above d e p q) = record {
    same = (λ x. absurd x, λ b. d b);
    below = (λ x. absurd x, λ b. e b);
    above = (λ x. p, λ b. tt);
    proved = passes (below_goal v u) n (rw (k.left, k.right)) q;
  }
  exact (Ok says.Apart) (compare.apart d e f q) = record {
    same = (λ x. absurd x, λ b. d b);
    below = (λ x. absurd x, λ b. e b);
    above = (λ x. absurd x, λ b. f b);
    proved = tt;
  }
  exact (Err k) h = elim h [ ]

-- what the call passes, the checker's own answer passes
answered : (s : State) (o : Option Equation) (g : Goal) (bytes : List ℕ) → passed ≡ check_reply s o g bytes → answer_to (with_offer s o) g bytes ≡ passed
unfolding check_reply
answered s o g bytes h = go (offer_below (length s.nodes) o && goal_below (length s.nodes) g) (offer_new s o) h
  where
    go : (b c : Bool) → passed ≡ cond b (cond c (answer_to (with_offer s o) g bytes) (refused 6)) (refused 4) → answer_to (with_offer s o) g bytes ≡ passed
    go true true q = sym q
    go true false q = cc
    go false c q = cc

pub demand2 : Demand2
demand2 = record {
  reports = λ w u v before after r ok n C. exact w u v before after ok (known (state_of w) u v (length before) n) r.reply (rw n at (C.replies ok));
  exact = λ w o g bytes r ok C. (
    λ e. sym (C.replies ok) ∙ ap judged_as e,
    λ e. judged_one r.reply (Ok tt) (check_reply (state_of w) o g bytes) (check_listed (state_of w) o g bytes) (C.replies ok) (sym e),
  );
  sound = λ w o g bytes r ok C e.
      let a = answered (state_of w) o g bytes (ap judged_as (sym e) ∙ C.replies ok) in
      (check_sound (with_offer (state_of w) o) g bytes a, check_cites (with_offer (state_of w) o) g bytes a);
}
