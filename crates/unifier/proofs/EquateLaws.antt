-- Equate past its early refusals: what the verdict asks, and the reply to each.
use mathlib.Core.Path.{◌≡◌, refl, sym, ap, subst}
use mathlib.Core.Bool.{Bool, true, false, ◌&&◌, cond}
use mathlib.Core.List.{List}
use mathlib.Core.Option.{Option, none, some}
use Prim.Native.Nat.{ℕ, ◌≤◌, ◌<◌}
use native.Mathlib.Omega.{arith}
use lib.ListN.{length}
use lib.Dec.{ltb, leb}
use borrow.Author.Tests.{ltb-true, ltb-false, leb-false}
use Rattle.graph.specs.State.{State, state_with, Equation, name_held, offered}
use Rattle.graph.specs.Goals.{Goal, clash_goal, cycle_goal}
use Rattle.graph.specs.Book as book
use Rattle.std.proofs.lemmas.Bool.{and_parts}
use Rattle.proof_lines.specs.Proof.{ProofIn}
use Rattle.store.specs.Views.{nodes_of, state_from}
use Rattle.store.specs.Shape.{EquationsShape, Shape}
use Rattle.store.specs.Operations.{PutsEquation, with_equation}
use Rattle.store.specs.declared.Equations.{Equations}
use Rattle.store.proofs.ViewLaws.{nodes_length, equations_length, shape_proper}
use Rattle.store.proofs.PutEquationLaws.{Full, puts_equation}
use Rattle.solve_trace.proofs.NodeLaws.{formed}
use Rattle.solve_closure.specs.Settled.{OfferFits, Before}
use Rattle.solve.specs.Decided.{number, LeftOver, Decided, Resumable}
use Rattle.solve.specs.declared.SolveResult.{SolveResult}
use Rattle.solve.specs.declared.Finding.TheVariants as finding
use Rattle.solve.proofs.VerdictLaws.{solved_just, offering}
use Rattle.solve.proofs.VerdictLaws as verdict
use Rattle.std.specs.Prelude.{Result, Ok, Err}
use Rattle.refusals.specs.declared.Refusal.{Refusal}
use Rattle.refusals.specs.declared.Refusal.TheVariants as refusal
use Rattle.solve_trace.specs.declared.Entry.{Entry}
use Rattle.unifier.specs.Views.{state_of, Valid}
use Rattle.unifier.specs.Replies.{outcome}
use Rattle.unifier.specs.Equate.{Equates}
use Rattle.unifier.specs.Inner.{Examining, Early, Offering, PlaceFor, Refuted, Settles}
use Rattle.unifier.specs.declared.Workspace.{Workspace}
use Rattle.unifier.proofs.Laws.{examined_well, early_past, equate_early, equate_clash, equate_cycle, equate_held}

-- a refusal leaves the workspace
pub settles_refused : (w : Workspace) (e : Equation) (before after : List ℕ) (k : Refusal) → Equates w e before after (outcome (Err k) w) → Settles w e before after (Err k)
settles_refused w e before after k q = record { equates = q; place = tt }

-- an early refusal, handed on
pub settles_early : (w : Workspace) (e : Equation) (before : List ℕ) → Valid w → (r q : Result (Unit {0}) Refusal) {k : Refusal} → r ≡ Err k
    → Early (book.early (state_of w) (book.equate e (length before))) r → q ≡ Err k → Settles w e before before q
settles_early w e before v r q {k} h x y = rw y (settles_refused w e before before k (equate_early w e before v k (rw h at x)))

-- and back: what the reply settles is what equate promises
-- none of the four tests refuses
tests : (x y z t : Bool) → ◌≡◌ {A = Option ℕ} (cond x (some 5) (cond y (cond z (some 6) (cond t (some 7) none)) (some 4))) none
    → (x ≡ false) × ((y ≡ true) × ((z ≡ false) × (t ≡ false)))
tests x y z t h = grind arith

module _ (w : Workspace) (e : Equation) (before : List ℕ) (past : book.early (state_of w) (book.equate e (length before)) ≡ none) where
  none_refuses : (ltb (length before) 65536 ≡ false) × ((ltb e.left (length (state_of w).nodes) && ltb e.right (length (state_of w).nodes) ≡ true)
      × ((name_held e.name (state_of w).equations ≡ false) × (leb 256 (length (state_of w).equations) ≡ false)))
  none_refuses =
      tests (ltb (length before) 65536) (ltb e.left (length (state_of w).nodes) && ltb e.right (length (state_of w).nodes))
      (name_held e.name (state_of w).equations) (leb 256 (length (state_of w).equations)) past

  pub known_left : e.left < w.terms.count
  known_left =
      let l : e.left < length (nodes_of w.terms) = ltb-true e.left (length (nodes_of w.terms)) (and_parts _ _ none_refuses.1.0).0 in
      rw (nodes_length w.terms) at l

  pub known_right : e.right < w.terms.count
  known_right =
      let l : e.right < length (nodes_of w.terms) = ltb-true e.right (length (nodes_of w.terms)) (and_parts _ _ none_refuses.1.0).1 in
      rw (nodes_length w.terms) at l

  pub equations_few : w.equations.count < 256
  equations_few = omega (arith, leb-false 256 (length (state_of w).equations) none_refuses.1.1.1, equations_length w.equations)

  pub name_new : name_held e.name (state_of w).equations ≡ false
  name_new = none_refuses.1.1.0

  pub buffer_long : 65536 ≤ length before
  buffer_long = ltb-false (length before) 65536 none_refuses.0

-- the arrays of well-shaped equations are full
full : {n : ℕ} {q : Equations} → EquationsShape n q → Full q
full s = record { names = s.name_size; lefts = s.left_size; rights = s.right_size }

-- what the examination and the early refusals leave
pub offering_now : (w : Workspace) (e : Equation) (room : ℕ) (trace : List Entry) (r : Result (List ℕ) Refusal) (table : List ℕ) (q : Result (Unit {0}) Refusal)
    → r ≡ Ok table → Examining w trace r → q ≡ Ok tt → Early (book.early (state_of w) (book.equate e room)) q → Offering w e room table trace
offering_now w e room trace r table q x s y p = record { solved = examined_well w trace r table x s; past = early_past _ q y p }

module _ (w : Workspace) (e : Equation) (before table : List ℕ) (trace : List Entry) (o : Offering w e (length before) table trace) where
  offering_left : e.left < w.terms.count
  offering_left = known_left w e before o.past

  offering_right : e.right < w.terms.count
  offering_right = known_right w e before o.past

  valid : Valid w
  valid = record { shape = o.solved.shape; solution = o.solved.solution }

  going : Resumable (state_of w) table trace
  going = record {
    proper = shape_proper w.terms w.equations o.solved.shape;
    ready = o.solved.ready;
    traced = o.solved.traced;
    exact = o.solved.exact;
  }

  -- what the solver goes on from
  pub extend_fits : OfferFits w.terms w.equations.count e.left e.right table trace
  extend_fits = offering going (formed w.terms o.solved.shape.terms) o.solved.shape.equations.few (offering_left, offering_right)

  -- what the solver finds of both together
  pub refuted : (r : SolveResult) (out : List Entry) → LeftOver w.terms r.table r.heights r.verdict
      → ((s : State) (d : Equation) → Before w.terms s d w.equations.count e.left e.right table trace → Decided (offered s d) r out)
      → Refuted w e (length before) r out
  refuted r out l D = record {
    valid = valid;
    past = o.past;
    decided = D (state_of w) e (verdict.before going e refl (equations_length w.equations));
    left_over = l;
  }

-- ---- the verdict as a reply

module _ (w : Workspace) (e : Equation) (before : List ℕ) (o : SolveResult) (trace : List Entry) (f : Refuted w e (length before) o trace) where
  refuted_place : PlaceFor w e
  refuted_place = record {
    shape = f.valid.shape;
    few = equations_few w e before f.past;
    left_known = known_left w e before f.past;
    right_known = known_right w e before f.past;
  }

  -- what putting it at the end asks
  pub refuted_ends : (w.equations.count < 256) × ((e.left < 64) × (e.right < 64))
  refuted_ends =
      let t = refuted_place in
      let n : w.terms.count ≤ 64 = t.shape.terms.few in
      (t.few, (omega (arith, t.left_known), omega (arith, t.right_known)))

  pub settles_held : o.verdict ≡ finding.Solved → Settles w e before before (Ok tt)
  settles_held q =
      let t = refuted_place in
      let s = t.shape.equations in
      let p = puts_equation w.equations e.name e.left e.right (full s) t.few in
      record {
        equates = equate_held w e before f.valid f.past (with_equation w.equations e.name e.left e.right) p.held
            (p.shape w.terms.count s t.left_known t.right_known (name_new w e before f.past)) (rw q at f.decided.verdict) ((solved_just f.decided).0 (rw q refl));
        place = t;
      }

-- ---- refusals 8 and 9: d is the held equations with e at their end

module _ (w : Workspace) (e : Equation) (before : List ℕ) (o : SolveResult) (trace : List Entry) (f : Refuted w e (length before) o trace) where
  pub refuted_room : 65536 ≤ length before
  refuted_room = buffer_long w e before f.past

  module _ (d : Equations) (p : PutsEquation w.equations e.name e.left e.right d) where
    pub refuted_shape : Shape w.terms d
    refuted_shape =
        record {
          terms = f.valid.shape.terms;
          equations = p.shape w.terms.count f.valid.shape.equations (known_left w e before f.past) (known_right w e before f.past) (name_new w e before f.past);
        }

    same_state : state_from w.terms d ≡ offered (state_of w) e
    same_state = ap (state_with (nodes_of w.terms)) p.held

    pub refuted_decided : Decided (state_from w.terms d) o trace
    refuted_decided = subst (λ (s : State). Decided s o trace) (sym same_state) f.decided

    module _ (n : ℕ) (after : List ℕ) where
      moved : (g : Goal) → ProofIn (state_from w.terms d) g n before after → ProofIn (offered (state_of w) e) g n before after
      moved g = subst (λ (s : State). ProofIn s g n before after) same_state

      pub settles_clash : number o.verdict ≡ 8 → ProofIn (state_from w.terms d) clash_goal n before after → Settles w e before after (Err (refusal.Clash n))
      settles_clash q l = settles_refused w e before after (refusal.Clash n) (equate_clash w e before f.valid f.past n after (rw q at f.decided.verdict) (moved clash_goal l))

      pub settles_cycle : number o.verdict ≡ 9 → ProofIn (state_from w.terms d) cycle_goal n before after → Settles w e before after (Err (refusal.Cycle n))
      settles_cycle q l = settles_refused w e before after (refusal.Cycle n) (equate_cycle w e before f.valid f.past n after (rw q at f.decided.verdict) (moved cycle_goal l))
