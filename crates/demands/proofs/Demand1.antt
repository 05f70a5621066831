-- Demand 1 about the calls, from their contracts.
use mathlib.Core.Path.{◌≡◌, refl, sym, ap, ap₂, ◌∙◌}
use mathlib.Core.Bool.{Bool, true, false, cond}
use mathlib.Core.List.{List}
use mathlib.Core.Option.{Option, none, some}
use mathlib.Core.Logic.{◌⊎◌, inl, inr, ⊎_elim}
use Prim.Native.Nat.{ℕ, ◌≤◌}
use native.Mathlib.Omega.{arith}
use lib.ListN.{length}
use lib.Dec.{eqb, ltb, leb}
use borrow.Author.Tests.{ne_eqb}
use Rattle.graph.specs.State.{State, Node as GraphNode, Equation, name_held, offered}
use Rattle.graph.specs.Goals.{Goal, refused}
use Rattle.graph.specs.Book as book
use Rattle.graph.proofs.BookLaws.{answer_unique}
use Rattle.solve_classes.proofs.MemberLaws.{class_unique}
use Rattle.std.specs.Prelude.{Result, Ok, Err}
use Rattle.refusals.specs.Numbers.{refusal_number, Brought, nothing, proof, place, brings, numbered}
use Rattle.refusals.specs.declared.Refusal.{Refusal}
use Rattle.refusals.specs.declared.Refusal.TheVariants.{NotAWorkspace, Clash, Cycle}
use Rattle.refusals.proofs.NumberLaws.{brings_nothing, number_one, numbered_back, proof_number}
use Rattle.solve_classes.specs.declared.Figures.{Figures}
use Rattle.proof_check.specs.Answers.{judged_as}
use Rattle.unifier_respond.specs.declared.Standing.{Standing}
use Rattle.unifier_respond.specs.declared.Standing.TheVariants as stands
use Rattle.unifier.specs.Views.{Valid, state_of, packed}
use Rattle.unifier.specs.Replies.{said, node_number, is_held, is_gone, outcome}
use Rattle.unifier.specs.Answers.{Answers}
use Rattle.unifier.specs.Equate.{LeftBehind, Written, Equates}
use Rattle.unifier.specs.Compare.{StandsAs as Answer, Replies, refusal_of}
use Rattle.unifier.specs.Compare as stance
use Rattle.unifier.specs.Class.{ClassReplies}
use Rattle.unifier.specs.Check.{check_reply}
use Rattle.unifier.proofs.PackedLaws.{repacked}
use Rattle.unifier.proofs.CheckLaws.{check_listed, replied, replied_back, judged_one}
use Rattle.unifier.specs.declared.Workspace.{Workspace}
use Rattle.unifier.specs.declared.Outcome.{Outcome}
use Rattle.unifier.proofs.Free.{free as free_calls}
use Rattle.proof_file.proofs.Free.{free as free_files}
use Rattle.proof_reader.proofs.Free.{free as free_reader}
use Rattle.proof_shorter.proofs.Free.{free as free_shorter}
use Rattle.eqtrace_session.specs.Program.{Stance, is_same, lies_below, lies_above, is_apart}
use Rattle.eqtrace_session.proofs.TellsLaws.{stance_unique}
use Rattle.eqtrace_session.proofs.Free.{free as free_steps}
use Rattle.proof_file.specs.File.{write_refusal}
use Rattle.proof_file.specs.Promises.{Writes}
use Rattle.proof_file.specs.Promises as files
use Rattle.proof_shorter.proofs.ChoiceLaws.{chosen_as, choice_there, no_choice_there, choice_back}
use Rattle.demands.proofs.Decides.{refused_is}
use Rattle.demands.proofs.Values.{check_one, check_says, check_gives, choice_one, choice_says, choice_gives}
use Rattle.demands.specs.Demand1.{Refuses, Away, Unchanged, bare, uncounted, uncounted_stance, OneReply, OneValue, Demand1}

-- ---- each reply is one value

one_value : OneValue
one_value = record {
  checked_as = replied;
  check_there = λ s o g bytes r e. judged_one _ r (check_reply s o g bytes) (check_listed s o g bytes) (check_back s o g bytes) e;
  no_check_there = λ r e. judged_one _ r (refused 1) (refl, refl) (replied_back (refused 1) (refl, refl)) e;
  check_back = check_back;
  check_one = check_one;
  check_says = check_says;
  check_gives = check_gives;
  chosen_as = chosen_as;
  choice_there = choice_there;
  no_choice_there = no_choice_there;
  choice_back = choice_back;
  choice_one = choice_one;
  choice_says = choice_says;
  choice_gives = choice_gives;
}
  where
    check_back : (s : State) (o : Option Equation) (g : Goal) (bytes : List ℕ) → judged_as (replied (check_reply s o g bytes)) ≡ check_reply s o g bytes
    check_back s o g bytes = replied_back (check_reply s o g bytes) (check_listed s o g bytes)

-- ---- no workspace

away : (w : Workspace) → (Valid w → ⊥) → Away w
away w bad = record {
  answers = λ says c r A. A.refuses bad;
  equates = λ e before after r E. let q = E.answers.refuses bad in (q, bytes e before after r E q);
  compares = λ u v before after r C. (ap₂ outcome (C.refuses bad).0 C.workspace, (C.refuses bad).1);
  classifies = λ u r C. ap₂ outcome (C.refuses bad) C.workspace;
  checks = λ o g bytes r C. ap₂ outcome (judged_one r.reply (Err NotAWorkspace) (refused 1) (refl, refl) (C.refuses bad) refl) C.workspace;
}
  where
    bytes : (e : Equation) (before after : List ℕ) (r : Outcome (Unit {0})) → Equates w e before after r → r ≡ outcome (Err NotAWorkspace) w → after ≡ before
    bytes e before after r E q = (rw (ap (λ (o : Outcome (Unit {0})). o.reply) q) at E.written).0

-- ---- a refusal leaves all

refused_leaves : {A : Type 0} (says : A → book.BookReply) (s : State) (c : book.Call) (k : ℕ) (r : Result A Refusal) → Refuses r → said says r ≡ (book.answer s c k).reply → (book.answer s c k).state ≡ s
refused_leaves says s c k (Ok a) h e = elim h [ ]
refused_leaves says s c k (Err j) h e = (refused_is s c (refusal_number j) k e).1

unchanged : (w : Workspace) → Valid w → Unchanged w
unchanged w ok = record {
  answers = λ says c r A h. let f = A.follows ok in f.workspace ∙ ap packed (refused_leaves says (state_of w) c f.number r.reply h f.reply) ∙ sym (repacked w ok.shape);
  equates = λ e before after r k E q a b. kept e before after k a b (brings k) refl (rw q at E.written);
  compares = λ u v before after r C. C.workspace;
  compare_bytes = λ u v before after r C h. go (refusal_of (state_of w) u v (length before)) u v before after r.reply h (C.replies ok);
  classifies = λ u r C. C.workspace;
  checks = λ o g bytes r C. C.workspace;
}
  where
    kept : (e : Equation) (before after : List ℕ) (k : Refusal) → (refusal_number k ≡ 8 → ⊥) → (refusal_number k ≡ 9 → ⊥) → (b : Brought) → brings k ≡ b
        → LeftBehind (offered (state_of w) e) before after (refusal_number k) b → after ≡ before
    kept e before after k a b nothing x h = h.0
    kept e before after k a b (proof n) x h = ⊎_elim (λ q. absurd (a q)) (λ q. absurd (b q)) (proof_number k n x)
    kept e before after k a b (place n) x h = absurd h

    go : (o : Option ℕ) (u v : ℕ) (before after : List ℕ) (r : Result Standing Refusal) → Refuses r → Replies o (state_of w) u v before after r → after ≡ before
    go none u v before after (Ok r) h q = absurd h
    go none u v before after (Err k) h q = absurd q
    go (some j) u v before after r h q = q.1

file_unchanged : (lines before after : List ℕ) (r : Result ℕ Refusal) → Writes lines before after r → Refuses r → after ≡ before
file_unchanged lines before after r = go (write_refusal (length lines) (length before)) r
  where
    go : (o : Option Refusal) (r : Result ℕ Refusal) → files.FileWritten o lines before after r → Refuses r → after ≡ before
    go none r h e = absurd (rw h.0 at e)
    go (some j) r h e = h.1

-- ---- one reply

one_class : (b : Bool) (s : State) (u : ℕ) (r q : Result Figures Refusal) → ClassReplies b s u r → ClassReplies b s u q → r ≡ q
one_class true s u (Ok x) (Ok y) p q = ap Ok (let e = class_unique p q in figures_same x y e.0 e.1)
  where
    figures_same : (x y : Figures) → x.number ≡ y.number → x.size ≡ y.size → x ≡ y
    figures_same x y e f = ap₂ (λ (n m : ℕ). record { number = n; size = m }) e f
one_class true s u (Ok x) (Err k) p q = absurd q
one_class true s u (Err k) q p h = absurd p
one_class false s u r q p h = p ∙ sym h

-- a reply that is no clash, no cycle and no broken line is fixed by what it says
one_result : {A : Type 0} (says : A → book.BookReply) → ((a b : A) → says a ≡ says b → a ≡ b) → ((a : A) (j : ℕ) → says a ≡ book.refused j → ⊥)
    → (r q : Result A Refusal) (k : ℕ) → (k ≡ 8 → ⊥) → (k ≡ 9 → ⊥) → (k ≡ 12 → ⊥) → ((j : ℕ) → said says r ≡ book.refused j → k ≡ j) → said says r ≡ said says q → r ≡ q
one_result says one apart (Ok a) (Ok b) k x y z f e = ap Ok (one a b e)
one_result says one apart (Ok a) (Err j) k x y z f e = absurd (apart a (refusal_number j) e)
one_result says one apart (Err i) (Ok b) k x y z f e = absurd (apart b (refusal_number i) (sym e))
one_result says one apart (Err i) (Err j) k x y z f e =
    let h : k ≡ refusal_number i = f (refusal_number i) refl in
    let d : refusal_number i ≡ refusal_number j = cc in
    ap Err
    (number_one i j
    (brings_nothing i (λ q. x (h ∙ q)) (λ q. y (h ∙ q)) (λ q. z (h ∙ q)))
    (brings_nothing j (λ q. x (h ∙ d ∙ q)) (λ q. y (h ∙ d ∙ q)) (λ q. z (h ∙ d ∙ q)))
    d)

-- an offered equation's, with 8 and 9 as clash and cycle
offer_said : book.BookReply → Result (Unit {0}) Refusal
offer_said (book.number i) = Ok tt
offer_said book.held = Ok tt
offer_said book.gone = Ok tt
offer_said book.cleared = Ok tt
offer_said (book.refused k) = Err (cond (eqb k 8) (Clash 0) (cond (eqb k 9) (Cycle 0) (numbered k)))

offered_reply : (s : State) (before after : List ℕ) (r : Result (Unit {0}) Refusal) → Written s before after r → uncounted r ≡ offer_said (said is_held r)
unfolding offer_said
offered_reply s before after (Ok u) h = refl
offered_reply s before after (Err r) h = go (brings r) refl h
  where
    go : (b : Brought) → brings r ≡ b → LeftBehind s before after (refusal_number r) b → Err (bare r) ≡ offer_said (book.refused (refusal_number r))
    go nothing x h = rw (ne_eqb (refusal_number r) 8 (λ e. omega (arith, e, h.1)), ne_eqb (refusal_number r) 9 (λ e. omega (arith, e, h.1)), numbered_back r x)
    go (proof n) x h = ⊎_elim (λ e. rw e refl) (λ e. rw e refl) (proof_number r n x)
    go (place n) x h = absurd h

early_declared : (s : State) (n : GraphNode) (k : ℕ) → book.Refusal s (book.declare n) k → (k ≤ 4) ⊎ (k ≡ 18)
early_declared s n k =
    go (leb 64 (length s.nodes)) (ltb 4 (length (book.children_of n))) (book.all_below (length s.nodes) (book.children_of n)) (book.node_fits n s.nodes)
  where
    go : (x y z a : Bool) → book.Else (cond x (some 2) (cond y (some 3) (cond z (cond a none (some 18)) (some 4)))) (book.Late s (book.declare n)) k → (k ≤ 4) ⊎ (k ≡ 18)
    go true y z a e = inl (omega (arith, e))
    go false true z a e = inl (omega (arith, e))
    go false false true true e = inl (omega (arith, e))
    go false false true false e = inr e
    go false false false a e = inl (omega (arith, e))

early_withdrawn : (s : State) (n k : ℕ) → book.Refusal s (book.withdraw n) k → (k ≡ 0) ⊎ (k ≡ 10)
early_withdrawn s n k = go (name_held n s.equations)
  where
    go : (x : Bool) → book.Else (cond x none (some 10)) (book.Late s (book.withdraw n)) k → (k ≡ 0) ⊎ (k ≡ 10)
    go true e = inl e
    go false e = inr e

stance_of : (s : State) (u v : ℕ) (before after : List ℕ) (r : Result Standing Refusal) → Answer s u v before after r
    → Stance s u v (Ok (stands.Same 0)) (Ok (stands.Below 0)) (Ok (stands.Above 0)) (Ok stands.Apart) (uncounted_stance r)
stance_of s u v before after (Ok (stands.Same n)) (stance.same p a) = is_same p
stance_of s u v before after (Ok (stands.Below n)) (stance.below x p a) = lies_below x p
stance_of s u v before after (Ok (stands.Above n)) (stance.above x y p a) = lies_above x y p
stance_of s u v before after (Ok stands.Apart) (stance.apart x y z a) = is_apart x y z
stance_of s u v before after (Err k) h = absurd h

one_comparison : (o : Option ℕ) (s : State) (u v : ℕ) (before after left : List ℕ) (r q : Result Standing Refusal) → Replies o s u v before after r → Replies o s u v before left q → uncounted_stance r ≡ uncounted_stance q
one_comparison none s u v before after left r q p h = stance_unique (stance_of s u v before after r p) (stance_of s u v before left q h)
one_comparison (some k) s u v before after left r q p h = ap uncounted_stance (p.0 ∙ sym h.0)

module _ {A : Type 0} (says : A → book.BookReply) (w : Workspace) (ok : Valid w) (c : book.Call) (r q : Outcome A) (P : Answers says w c r) (Q : Answers says w c q) where
  one_answer : book.answer (state_of w) c (P.follows ok).number ≡ book.answer (state_of w) c (Q.follows ok).number
  one_answer = let f = P.follows ok in let g = Q.follows ok in answer_unique (state_of w) c f.number g.number f.refusal g.refusal

  one_said : said says r.reply ≡ said says q.reply
  one_said = (P.follows ok).reply ∙ ap (λ (a : book.Transition). a.reply) one_answer ∙ sym (Q.follows ok).reply

  one_workspace : r.workspace ≡ q.workspace
  one_workspace = (P.follows ok).workspace ∙ ap (λ (a : book.Transition). packed a.state) one_answer ∙ sym (Q.follows ok).workspace

  -- a call whose refusals are none of 8, 9 and 12 has one outcome
  one_outcome : ((a b : A) → says a ≡ says b → a ≡ b) → ((a : A) (j : ℕ) → says a ≡ book.refused j → ⊥)
      → ((k : ℕ) → book.Refusal (state_of w) c k → (k ≡ 8 → ⊥) × (k ≡ 9 → ⊥) × (k ≡ 12 → ⊥)) → r ≡ q
  one_outcome one apart h =
      let f = P.follows ok in
      let a = h f.number f.refusal in
      ap₂ outcome
      (one_result says one apart r.reply q.reply f.number a.0 a.1 a.2 (λ j e. (refused_is (state_of w) c j f.number (sym e ∙ f.reply)).0) one_said)
      one_workspace

one_reply : (w : Workspace) → Valid w → OneReply w
one_reply w ok = record {
  declares = λ n r q P Q. one_outcome node_number w ok (book.declare n) r q P Q (λ a b e. cc) (λ a j e. cc)
      (λ k h. ⊎_elim (λ l. (λ e. omega (arith, e, l), λ e. omega (arith, e, l), λ e. omega (arith, e, l))) (λ l. (λ e. omega (arith, e, l), λ e. omega (arith, e, l), λ e. omega (arith, e, l)))
      (early_declared (state_of w) n k h));
  withdraws = λ n r q P Q.
      one_outcome is_gone w ok (book.withdraw n) r q P Q (λ a b e. refl) (λ a j e. cc)
      (λ k h. let l = early_withdrawn (state_of w) n k h in
      (λ e. omega arith, λ e. omega arith, λ e. omega arith));
  equates = λ e before after left r q P Q.
      let c = book.equate e (length before) in (
        offered_reply (offered (state_of w) e) before after r.reply P.written ∙ ap offer_said (one_said is_held w ok c r q P.answers Q.answers) ∙ sym (offered_reply (offered (state_of w) e) before left q.reply Q.written),
        one_workspace is_held w ok c r q P.answers Q.answers,
      );
  compares = λ u v before after left r q C D. one_comparison (refusal_of (state_of w) u v (length before)) (state_of w) u v before after left r.reply q.reply (C.replies ok) (D.replies ok);
  classifies = λ u r q C D. ap₂ outcome (one_class (ltb u (length (state_of w).nodes)) (state_of w) u r.reply q.reply (C.replies ok) (D.replies ok)) (C.workspace ∙ sym D.workspace);
  checks = λ o g bytes r q C D.
      ap₂ outcome (judged_one r.reply q.reply (check_reply (state_of w) o g bytes) (check_listed (state_of w) o g bytes) (C.replies ok) (D.replies ok)) (C.workspace ∙ sym D.workspace);
}

pub demand1 : Demand1
demand1 = record {
  free_calls = free_calls;
  free_files = free_files;
  free_reader = free_reader;
  free_shorter = free_shorter;
  free_steps = free_steps;
  away = away;
  unchanged = unchanged;
  file_unchanged = file_unchanged;
  one_reply = one_reply;
  one_value = one_value;
}
