-- One equation offered to a workspace: what its reply leaves, and its fate, from equate's contract.
use mathlib.Core.Path.{◌≡◌, refl, subst}
use mathlib.Core.Bool.{Bool, true, false, cond}
use mathlib.Core.List.{List}
use mathlib.Core.Logic.{⊎_elim}
use mathlib.Core.Option.{none, some}
use Prim.Native.Nat.{ℕ, ◌<◌, ◌≤◌}
use native.Mathlib.Omega.{arith}
use lib.ListN.{length}
use lib.Dec.{eqb, ltb, leb}
use borrow.Author.Tests.{lt-ltb, le-ltb, lt-leb, ltb-false}
use Rattle.graph.specs.Limits.{equation_limit, buffer_bytes}
use Rattle.graph.specs.State.{State, Equation, Proper, name_held, offered}
use Rattle.graph.specs.Solution.{Solution}
use Rattle.graph.specs.Verdict.{Verdict, clashes, cycles, solvable}
use Rattle.graph.specs.Goals.{Goal, clash_goal, cycle_goal}
use Rattle.graph.specs.Book as book
use Rattle.graph.proofs.SolutionLaws.{solution_no_clash, solution_no_cycle}
use Rattle.graph.proofs.CitesLaws.{passes_cites}
use Rattle.graph.proofs.ProperLaws.{proper_offered}
use Rattle.proof_lines.specs.Codec.{first_lines}
use Rattle.proof_lines.specs.Proof.{ProofIn}
use Rattle.store.proofs.ViewLaws.{shape_proper}
use Rattle.unifier.specs.Views.{Valid, state_of, packed}
use Rattle.unifier.specs.Replies.{said, is_held}
use Rattle.unifier.specs.Answers.{Follows}
use Rattle.unifier.specs.Equate.{LeftBehind, Written, Equates}
use Rattle.proof_rules.specs.Rules.{both_below}
use Rattle.unifier.specs.Check.{goal_below}
use Rattle.unifier.proofs.CheckLaws.{proof_checks}
use Rattle.unifier.proofs.PackedLaws.{packed_lists}
use Rattle.unifier.specs.declared.Workspace.{Workspace}
use Rattle.unifier.specs.declared.Outcome.{Outcome}
use Rattle.std.specs.Prelude.{Result, Ok, Err}
use Rattle.refusals.specs.Numbers.{refusal_number, Brought, nothing, proof, place, brings}
use Rattle.refusals.specs.declared.Refusal.{Refusal}
use Rattle.refusals.specs.declared.Refusal.TheVariants.{Clash, Cycle}
use Rattle.refusals.proofs.NumberLaws.{proof_number, number_8, number_9}
use Rattle.demands.specs.History.{Shown, ShownBeside, ShownBy, Offerable, OfferDecided, taken, clash, cycle}

-- only a refused call is answered with a refusal, and that leaves the lists
accepted_not : (s : State) (c : book.Call) (j : ℕ) → book.refused j ≡ (book.accepted s c).reply → ⊥
accepted_not s (book.declare n) j e = cc
accepted_not s (book.equate x room) j e = cc
accepted_not s (book.withdraw n) j e = cc
accepted_not s book.clear j e = cc

pub refused_is : (s : State) (c : book.Call) (j k : ℕ) → book.refused j ≡ (book.answer s c k).reply → (k ≡ j) × ((book.answer s c k).state ≡ s)
refused_is s c j k = go (eqb k 0)
  where
    go : (b : Bool) → book.refused j ≡ (cond b (book.accepted s c) (book.transition (book.refused k) s)).reply → (k ≡ j) × ((cond b (book.accepted s c) (book.transition (book.refused k) s)).state ≡ s)
    go true e = absurd (accepted_not s c j e)
    go false e = (cc, refl)

-- none of 5, 4, 6 refuses it
record Past (s : State) (e : Equation) (room : ℕ) : Type 0 where
  pub buffer : buffer_bytes ≤ room
  pub known : both_below (length s.nodes) e.left e.right ≡ true
  pub new : name_held e.name s.equations ≡ false

module _ (s : State) (e : Equation) (room : ℕ) where
  -- a refusal from 8 on is none of those
  late_past : (k : ℕ) → book.Refusal s (book.equate e room) k → 7 < k → Past s e room
  late_past k r h =
      let p = go (ltb room buffer_bytes) (both_below (length s.nodes) e.left e.right) (name_held e.name s.equations) (leb equation_limit (length s.equations)) r in
      record { buffer = ltb-false room buffer_bytes p.0; known = p.1; new = p.2 }
    where
      go : (x y z t : Bool) → book.Else (cond x (some 5) (cond y (cond z (some 6) (cond t (some 7) none)) (some 4))) (book.Late s (book.equate e room)) k
          → (x ≡ false) × (y ≡ true) × (z ≡ false)
      go true y z t q = absurd (omega arith)
      go false false z t q = absurd (omega arith)
      go false true true t q = absurd (omega arith)
      go false true false true q = absurd (omega arith)
      go false true false false q = (refl, refl, refl)

module _ (s : State) (e : Equation) (before after : List ℕ) where
  shown : (g : Goal) (n : ℕ) → goal_below (length s.nodes) g ≡ true → Past s e (length before) → ProofIn (offered s e) g n before after → Shown s e g n before after
  shown g n q p i = record {
    proof = i;
    checked = proof_checks s e g n before after i (omega (arith, i.few, p.buffer)) p.known p.new q;
    cites = passes_cites (offered s e) g (first_lines n after) i.passes;
  }

  -- what was written shows what the reply says
  pub shown_by : (k : ℕ) (r : Result (Unit {0}) Refusal) → book.Refusal s (book.equate e (length before)) k → said is_held r ≡ (book.answer s (book.equate e (length before)) k).reply
      → Written (offered s e) before after r → ShownBy s e before after r
  shown_by k (Ok u) f h w = w
  shown_by k (Err r) f h w = go (brings r) refl w
    where
      q : k ≡ refusal_number r
      q = (refused_is s (book.equate e (length before)) (refusal_number r) k h).0

      which : (c : Bool) (n : ℕ) → Past s e (length before) → ProofIn (offered s e) (cond c clash_goal cycle_goal) n before after → Shown s e (cond c clash_goal cycle_goal) n before after
      which true n p i = shown clash_goal n refl p i
      which false n p i = shown cycle_goal n refl p i

      go : (b : Brought) → brings r ≡ b → LeftBehind (offered s e) before after (refusal_number r) b → ShownBeside s e before after (refusal_number r) b
      go nothing x i = i
      go (proof n) x i =
          which (eqb (refusal_number r) 8) n
          (late_past s e (length before) k f (⊎_elim (λ z. omega (arith, z, q)) (λ z. omega (arith, z, q)) (proof_number r n x)))
          i
      go (place n) x i = i

  -- the reply of each verdict
  module _ (p : Past s e (length before)) where
    by_clash : (r : Result (Unit {0}) Refusal) → said is_held r ≡ book.refused 8 → Written (offered s e) before after r → (Solution (offered s e) → ⊥) → OfferDecided s e before after r
    by_clash (Ok u) h w un = cc
    by_clash (Err r) h w un = go (number_8 r cc) w
      where
        go : (n : ℕ) × (r ≡ Clash n) → Written (offered s e) before after (Err r) → OfferDecided s e before after (Err r)
        go (n, x) w = rw x (clash un (shown clash_goal n refl p (rw x at w)))

    by_cycle : (r : Result (Unit {0}) Refusal) → said is_held r ≡ book.refused 9 → Written (offered s e) before after r → (Solution (offered s e) → ⊥) → OfferDecided s e before after r
    by_cycle (Ok u) h w un = cc
    by_cycle (Err r) h w un = go (number_9 r cc) w
      where
        go : (n : ℕ) × (r ≡ Cycle n) → Written (offered s e) before after (Err r) → OfferDecided s e before after (Err r)
        go (n, x) w = rw x (cycle un (shown cycle_goal n refl p (rw x at w)))

    by_none : (r : Result (Unit {0}) Refusal) → said is_held r ≡ book.held → Solution (offered s e) → OfferDecided s e before after r
    by_none (Ok u) h t = taken t
    by_none (Err r) h t = cc

-- none of 5, 4, 6, 7 refuses it
ready : (s : State) (e : Equation) (lent : List ℕ) → Offerable s e lent → book.early s (book.equate e (length lent)) ≡ none
ready s e lent r =
    rw (le-ltb (length lent) buffer_bytes r.buffer, lt-ltb _ _ r.left_known, lt-ltb _ _ r.right_known, r.new, lt-leb equation_limit _ r.few)

ready_past : (s : State) (e : Equation) (lent : List ℕ) → Offerable s e lent → Past s e (length lent)
ready_past s e lent r =
    record { buffer = r.buffer; known = rw (lt-ltb _ _ r.left_known, lt-ltb _ _ r.right_known); new = r.new }

-- a workspace that holds a state has a solution of it
packed_solution : (s : State) (w : Workspace) → w ≡ packed s → Valid w → Solution s
packed_solution s w p v = subst Solution (packed_lists s w p v) v.solution

module _ (w : Workspace) (v : Valid w) (e : Equation) (before after : List ℕ) (o : Outcome (Unit {0})) where
  pub decides : Offerable (state_of w) e before → Equates w e before after o → OfferDecided (state_of w) e before after o.reply
  decides r q = go f.number (rw (ready (state_of w) e before r) at f.refusal) f.reply f.workspace
    where
      f : Follows is_held w (book.equate e (length before)) o
      f = q.answers.follows v

      past : Past (state_of w) e (length before)
      past = ready_past (state_of w) e before r

      proper : Proper (offered (state_of w) e)
      proper = proper_offered (state_of w) (shape_proper w.terms w.equations v.shape) e r.left_known r.right_known

      go : (k : ℕ) → Verdict (offered (state_of w) e) k → said is_held o.reply ≡ (book.answer (state_of w) (book.equate e (length before)) k).reply
          → o.workspace ≡ packed (book.answer (state_of w) (book.equate e (length before)) k).state → OfferDecided (state_of w) e before after o.reply
      go k (clashes c) h x = by_clash (state_of w) e before after past o.reply h q.written (λ t. solution_no_clash (offered (state_of w) e) proper t c)
      go k (cycles n c) h x = by_cycle (state_of w) e before after past o.reply h q.written (λ t. solution_no_cycle (offered (state_of w) e) proper t c)
      go k (solvable n m) h x = by_none (state_of w) e before after past o.reply h (packed_solution (offered (state_of w) e) o.workspace x f.valid)
