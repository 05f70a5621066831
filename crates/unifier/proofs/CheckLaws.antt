-- The lines that a call left, handed to check: it passes them. Refusals 4 and 6, and that a judgement has one reply.
use mathlib.Core.Path.{◌≡◌, refl, sym, ap, ◌∙◌, subst}
use mathlib.Core.Bool.{Bool, true, false, not, ◌&&◌, cond}
use mathlib.Core.Logic.{⊎_elim}
use mathlib.Core.List.{List, [], ◌∷◌, ◌++◌}
use mathlib.Core.Option.{Option, none, some}
use Prim.Native.Nat.{ℕ, ◌+◌, ◌*◌, ◌≤◌, ◌<◌}
use native.Mathlib.Omega.{arith}
use lib.ListN.{length, take, length-append}
use Rattle.std.specs.Prelude.{Result, Ok, Err, Some, None}
use Rattle.std.specs.declared.option.Option.{Option as Optional}
use Rattle.proof_rules.specs.declared.Offer.{Offer}
use Rattle.graph.specs.State.{State, Equation, name_held, offered, with_offer}
use Rattle.graph.specs.Lines.{Line, Claim, claim_of, LineClaims, all, broken, on_all, more, line_claims}
use Rattle.graph.specs.Goals.{Goal, Judgement, passed, refused, broken_line, shows, Ended, ends, breaks, empty, last_of, ended, judge_end, judge}
use Rattle.refusals.specs.Numbers.{refusal_number, Brought, nothing, proof, place, brings, numbered}
use Rattle.refusals.proofs.NumberLaws.{proof_number, place_is, numbered_back}
use Rattle.proof_lines.specs.Codec.{lines_of}
use Rattle.proof_lines.proofs.Decoding.{lines_length}
use Rattle.refusals.specs.declared.Refusal.{Refusal}
use Rattle.refusals.specs.declared.Refusal.TheVariants as refusal
use Rattle.proof_rules.specs.Rules.{offer_of, both_below, offer_below}
use Rattle.proof_lines.specs.Proof.{ProofIn}
use Rattle.proof_check.specs.Answers.{bad_length, refused_as, judged_as, answer_to}
use Rattle.proof_check.proofs.AnswerLaws.{proof_passes}
use Rattle.proof_check.proofs.LengthLaws.{length_whole}
use Rattle.store.proofs.ViewLaws.{nodes_length}
use Rattle.unifier.specs.Views.{state_of, Valid}
use Rattle.unifier.specs.Replies.{outcome}
use Rattle.unifier.specs.Check.{goal_below, offer_new, check_reply, Checks}
use Rattle.unifier.specs.Inner.{Questioned}
use Rattle.unifier.specs.declared.Workspace.{Workspace}

offer_judged : (s : State) (e : Equation) (g : Goal) (bytes : List ℕ) → both_below (length s.nodes) e.left e.right ≡ true
    → name_held e.name s.equations ≡ false → goal_below (length s.nodes) g ≡ true → check_reply s (some e) g bytes ≡ answer_to (offered s e) g bytes
unfolding check_reply
offer_judged s e g bytes k w q = rw (k, q, w)

-- offered to check with its equation, what a clash or a cycle left passes
module _ (s : State) (e : Equation) (g : Goal) (n : ℕ) (before after : List ℕ) where
  pub proof_checks : ProofIn (offered s e) g n before after → 8 * n ≤ length before → both_below (length s.nodes) e.left e.right ≡ true
      → name_held e.name s.equations ≡ false → goal_below (length s.nodes) g ≡ true → check_reply s (some e) g (take (8 * n) after) ≡ passed
  proof_checks p r k w q =
      offer_judged s e g (take (8 * n) after) k w q ∙ proof_passes (offered s e) g n before after p (omega (arith, p.kept.size))

-- ---- the line of refusal 12

-- a line that breaks its rule is one of the lines
broken_within : (s : State) (done : List Claim) (ls : List Line) (k : ℕ) → line_claims s done ls ≡ broken k → k < length done + length ls
broken_within s done [] k h = cc
broken_within s done (l ∷ ls) k h = go (claim_of s done l) h (λ c. broken_within s (done ++ (c ∷ [])) ls k)
  where
    go : (o : Option Claim) → on_all (more done o) (λ next. line_claims s next ls) ≡ broken k
        → ((c : Claim) → line_claims s (done ++ (c ∷ [])) ls ≡ broken k → k < length (done ++ (c ∷ [])) + length ls) → k < length done + length (l ∷ ls)
    go none q r = let e : length done ≡ k = cc in omega arith
    go (some c) q r = omega (arith, r c q, length-append done (c ∷ []))

-- the line of refusal 12 is a line of a proof
abbrev pub Reported : Judgement → Type 0
Reported passed = Unit {0}
Reported (refused k) = Unit {0}
Reported (broken_line i) = i < 8192

module _ (s : State) (g : Goal) (bytes : List ℕ) where
  answer_reported : Reported (answer_to s g bytes)
  unfolding answer_to
  answer_reported = go (bad_length (length bytes)) refl
    where
      shown : (b : Bool) → Reported (cond b passed (refused 13))
      shown true = tt
      shown false = tt

      ending : (e : Ended) → ((k : ℕ) → e ≡ breaks k → k < 8192) → Reported (judge_end s.nodes g e)
      ending (ends c) h = shown (shows s.nodes g c)
      ending (breaks k) h = h k refl
      ending empty h = tt

      last_not : (cs : List Claim) (k : ℕ) → last_of cs ≡ breaks k → ⊥
      last_not [] k q = cc
      last_not (c ∷ []) k q = cc
      last_not (c ∷ (d ∷ ds)) k q = last_not (d ∷ ds) k q

      within : (r : LineClaims) → ((k : ℕ) → r ≡ broken k → k < 8192) → (k : ℕ) → ended r ≡ breaks k → k < 8192
      within (all cs) h k q = absurd (last_not cs k q)
      within (broken j) h k q = let e : j ≡ k = cc in h k (rw e refl)

      go : (b : Bool) → bad_length (length bytes) ≡ b → Reported (cond b (refused 11) (judge s g (lines_of bytes)))
      go true e = tt
      go false e =
          ending (ended (line_claims s [] (lines_of bytes)))
          (within (line_claims s [] (lines_of bytes))
          (λ k q. omega (arith, broken_within s [] (lines_of bytes) k q, lines_length bytes, (length_whole (length bytes) e).few)))

  pub reported : (j : Judgement) → j ≡ answer_to s g bytes → Reported j
  reported j e = subst Reported (sym e) answer_reported

pub broken_fits : (r : Result (Unit {0}) Refusal) (i : ℕ) → r ≡ Err (refusal.BrokenLine i) → Reported (judged_as r) → i < 8192
broken_fits r i e h = rw e at h

-- ---- refusals 4 and 6, or what is asked is judged

module _ (w : Workspace) (o : Option Equation) (g : Goal) where
  pub asked_offer : offer_below w.terms.count o ≡ false → Questioned w o g (Err refusal.UnknownNode)
  unfolding check_reply
  asked_offer h bytes = rw (nodes_length w.terms, h)

  pub asked_goal : offer_below w.terms.count o ≡ true → goal_below w.terms.count g ≡ false → Questioned w o g (Err refusal.UnknownNode)
  unfolding check_reply
  asked_goal h k bytes = rw (nodes_length w.terms, h, k)

  pub asked_name : offer_below w.terms.count o ≡ true → goal_below w.terms.count g ≡ true → offer_new (state_of w) o ≡ false → Questioned w o g (Err refusal.NameHeld)
  unfolding check_reply
  asked_name h k r bytes = rw (nodes_length w.terms, h, k, r)

  pub asked_well : offer_below w.terms.count o ≡ true → goal_below w.terms.count g ≡ true → offer_new (state_of w) o ≡ true → Questioned w o g (Ok tt)
  unfolding check_reply
  asked_well h k r = record { known = h; judged = λ bytes. rw (nodes_length w.terms, h, k, r) }

-- ---- the whole promise

module _ (w : Workspace) (o : Option Equation) (g : Goal) (bytes : List ℕ) where
  pub check_no_workspace : (Valid w → ⊥) → Checks w o g bytes (outcome (Err refusal.NotAWorkspace) w)
  check_no_workspace bad = record { refuses = λ _. refl; replies = λ ok. absurd (bad ok); workspace = refl }

  pub check_replied : Valid w → (r : Result (Unit {0}) Refusal) → judged_as r ≡ check_reply (state_of w) o g bytes → Checks w o g bytes (outcome r w)
  check_replied ok r e = record { refuses = λ bad. absurd (bad ok); replies = λ _. e; workspace = refl }

-- the offered name, by the code's offer
pub new_of_none : (w : Workspace) (o : Optional Offer) → o ≡ None → offer_new (state_of w) (offer_of o) ≡ true
new_of_none w o e = rw e

pub new_of_some : (w : Workspace) (o : Optional Offer) (f : Offer) → o ≡ Some f → offer_new (state_of w) (offer_of o) ≡ not (name_held f.name (state_of w).equations)
new_of_some w o f e = rw e

-- ---- one reply for each judgement

-- a refusal's judgement, by its number and what it brings
abbrev pub judgement : ℕ → Brought → Judgement
judgement k nothing = refused k
judgement k (proof n) = refused k
judgement k (place i) = broken_line i

pub refused_by : (r : Refusal) → refused_as r ≡ judgement (refusal_number r) (brings r)
refused_by refusal.NotAWorkspace = refl
refused_by refusal.NodesFull = refl
refused_by refusal.TooManyChildren = refl
refused_by refusal.UnknownNode = refl
refused_by refusal.ShortBuffer = refl
refused_by refusal.NameHeld = refl
refused_by refusal.EquationsFull = refl
refused_by (refusal.Clash n) = refl
refused_by (refusal.Cycle n) = refl
refused_by refusal.NameNotHeld = refl
refused_by refusal.BadLength = refl
refused_by (refusal.BrokenLine n) = refl
refused_by refusal.NotShown = refl
refused_by refusal.NotAProofFile = refl
refused_by refusal.BadFileLength = refl
refused_by refusal.UnreadableOrder = refl
refused_by refusal.ShortOutput = refl
refused_by refusal.OtherArity = refl

-- the judgement's number is that of a refusal which brings nothing
abbrev pub Listed : Judgement → Type 0
Listed passed = Unit {0}
Listed (refused k) = (refusal_number (numbered k) ≡ k) × (brings (numbered k) ≡ nothing)
Listed (broken_line i) = Unit {0}

module _ (s : State) (g : Goal) (bytes : List ℕ) where
  answer_listed : Listed (answer_to s g bytes)
  unfolding answer_to
  answer_listed = go (bad_length (length bytes))
    where
      shown : (b : Bool) → Listed (cond b passed (refused 13))
      shown true = tt
      shown false = (refl, refl)

      ending : (e : Ended) → Listed (judge_end s.nodes g e)
      ending (ends c) = shown (shows s.nodes g c)
      ending (breaks k) = tt
      ending empty = (refl, refl)

      go : (b : Bool) → Listed (cond b (refused 11) (judge s g (lines_of bytes)))
      go true = (refl, refl)
      go false = ending (ended (line_claims s [] (lines_of bytes)))

pub check_listed : (s : State) (o : Option Equation) (g : Goal) (bytes : List ℕ) → Listed (check_reply s o g bytes)
unfolding check_reply
check_listed s o g bytes = go (offer_below (length s.nodes) o && goal_below (length s.nodes) g) (offer_new s o)
  where
    go : (b c : Bool) → Listed (cond b (cond c (answer_to (with_offer s o) g bytes) (refused 6)) (refused 4))
    go true true = answer_listed (with_offer s o) g bytes
    go true false = (refl, refl)
    go false c = (refl, refl)

-- the reply of a judgement
abbrev pub replied : Judgement → Result (Unit {0}) Refusal
replied passed = Ok tt
replied (refused k) = Err (numbered k)
replied (broken_line i) = Err (refusal.BrokenLine i)

pub replied_back : (j : Judgement) → Listed j → judged_as (replied j) ≡ j
replied_back passed p = refl
replied_back (refused k) p = refused_by (numbered k) ∙ rw (p.0, p.1) refl
replied_back (broken_line i) p = refl

pub judged_back : (r : Result (Unit {0}) Refusal) → Listed (judged_as r) → replied (judged_as r) ≡ r
judged_back (Ok u) p = refl
judged_back (Err k) p = ap replied (refused_by k) ∙ go (brings k) refl (subst Listed (refused_by k) p)
  where
    go : (b : Brought) → brings k ≡ b → Listed (judgement (refusal_number k) b) → replied (judgement (refusal_number k) b) ≡ Err k
    go nothing e p = ap Err (numbered_back k e)
    go (proof n) e p = absurd (⊎_elim (λ q. eight (rw q at p.0)) (λ q. nine (rw q at p.0)) (proof_number k n e))
      where
        eight : refusal_number (numbered 8) ≡ 8 → ⊥
        eight h = omega (arith, h)

        nine : refusal_number (numbered 9) ≡ 9 → ⊥
        nine h = omega (arith, h)
    go (place i) e p = ap Err (sym (place_is k i e))

pub judged_one : (r q : Result (Unit {0}) Refusal) (j : Judgement) → Listed j → judged_as r ≡ j → judged_as q ≡ j → r ≡ q
judged_one r q j p e f =
    sym (judged_back r (subst Listed (sym e) p)) ∙ ap replied (e ∙ sym f) ∙ judged_back q (subst Listed (sym f) p)
