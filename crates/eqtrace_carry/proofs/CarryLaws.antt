-- One order carried out, from what its parts promise.
use mathlib.Core.Path.{◌≡◌, refl, sym, ap, ◌∙◌, subst}
use mathlib.Core.List.{List, []}
use Rattle.std.specs.Prelude.{Result, Ok, Err}
use Rattle.refusals.specs.Numbers.{refusal_number, Brought, nothing, proof, place, brings}
use Rattle.refusals.specs.declared.Refusal.{Refusal}
use mathlib.Core.Option.{Option, none, some}
use Prim.Native.Nat.{ℕ, ◌*◌, ◌≤◌}
use mathlib.Core.Bool.{Bool, true, false, ◌&&◌}
use lib.Dec.{leb}
use borrow.Author.Tests.{le-leb, leb-true}
use native.Mathlib.Omega.{arith}
use lib.ListN.{length, take}
use Rattle.graph.specs.State.{State, Equation, offered}
use Rattle.graph.specs.Goals.{Goal}
use Rattle.std.proofs.lemmas.Bool.{and_parts}
use Rattle.graph.specs.Lines.{Line}
use Rattle.graph.specs.Book as book
use Rattle.proof_lines.specs.Codec.{lines_of}
use Rattle.proof_lines.specs.Proof.{ProofIn}
use Rattle.proof_lines.proofs.Decoding.{part_lines}
use Rattle.proof_cited.specs.Cited.{CitedRising}
use Rattle.unifier.specs.Views.{Valid, state_of}
use Rattle.unifier.specs.Answers.{Answers}
use Rattle.unifier.specs.Equate.{LeftBehind, Equates}
use Rattle.unifier.specs.Compare as compare
use Rattle.unifier.specs.declared.Workspace.{Workspace}
use Rattle.unifier.specs.declared.Outcome.{Outcome}
use Rattle.unifier_respond.specs.declared.Standing.{Standing}
use Rattle.unifier_respond.specs.declared.Standing.TheVariants as stands
use Rattle.eqtrace_orders.specs.Grammar.{Order}
use Rattle.eqtrace_orders.specs.Grammar as order
use Rattle.eqtrace_answers.specs.Text.{Output, refused}
use Rattle.eqtrace_answers.specs.Puts.{meant}
use Rattle.eqtrace_answers.specs.declared.Answer.{Answer as Code}
use Rattle.eqtrace_answers.specs.declared.Answer.TheVariants as code
use Rattle.eqtrace_carry.specs.Carried.{plainly, SpokenBeside, Spoken, Stated, Called, Offered, Does, Carries}
use Rattle.eqtrace_carry.specs.Inner.{brought_lines, stance_lines, stance_answered, Means, CitesIn, Telling}
use Rattle.eqtrace_carry.specs.declared.Carried.{Carried}

-- ---- cited names

pub cites_none : (n : ℕ) (bytes : List ℕ) → n ≡ 0 → CitesIn n bytes []
cites_none n bytes e = record { few = omega arith; none = λ q. refl; some = λ q. absurd (omega arith) }

pub cites_some : (n : ℕ) (bytes cited : List ℕ) → (n ≡ 0 → ⊥) → 8 * n ≤ length bytes → CitedRising (lines_of (take (8 * n) bytes)) cited → length cited ≤ 8192 → CitesIn n bytes cited
cites_some n bytes cited z h c f = record {
  few = f;
  none = λ q. absurd (z q);
  some = λ q. subst (λ (ls : List Line). CitedRising ls cited) (part_lines n bytes h) c;
}

-- ---- a call without a proof

module _ {A : Type 0} (tells : A → book.BookReply) (says : A → Output) (w : Workspace) (c : book.Call) (o : Outcome A) (P : Answers tells w c o) (a : Code)
    (m : meant a [] ≡ plainly says o.reply) {old new : List ℕ} {r : Carried} (T : Telling o.workspace a [] old new r) (proof : List ℕ) where
  called : Called tells says w c proof proof (plainly says o.reply) r.workspace
  called = record { outcome = o; answers = P; said = refl; workspace = T.workspace; kept = refl }

  pub carries : (i : ℕ) (t : Option Order) → (Called tells says w c proof proof (plainly says o.reply) r.workspace → Does w i t proof proof (plainly says o.reply) r.workspace)
      → Carries w i t proof proof old new r
  carries i t k = record { answer = plainly says o.reply; does = k called; says = rw (← m) T.says; refused_is = rw (← m) T.refused_is }

-- ---- an offered equation

module _ (w : Workspace) (e : Equation) (before after : List ℕ) (o : Outcome (Unit {0})) (q : Equates w e before after o) where
  brought_few : (k : Refusal) → o.reply ≡ Err k → (b : Brought) → LeftBehind (offered (state_of w) e) before after (refusal_number k) b → brought_lines b ≤ 8192
  brought_few k x nothing h = omega arith
  brought_few k x (proof n) h = h.few
  brought_few k x (place n) h = absurd h

  beside : (k : Refusal) → o.reply ≡ Err k → LeftBehind (offered (state_of w) e) before after (refusal_number k) (brings k)
  beside k x = rw x at q.written

  pub offer_lines : (k : Refusal) → o.reply ≡ Err k → brought_lines (brings k) ≤ 8192
  offer_lines k x = brought_few k x (brings k) (beside k x)

  module _ {old new : List ℕ} {r : Carried} (t : Option Order) (i : ℕ)
      (f : (b : Output) → Offered w e before after b r.workspace → Does w i t before after b r.workspace) where
    carried : (a : Code) (names : List ℕ) (T : Telling o.workspace a names old new r) → Spoken e.name after o.reply (meant a names) → Carries w i t before after old new r
    carried a names T h = record {
      answer = meant a names;
      does = f (meant a names) (record { outcome = o; equates = q; said = h; workspace = T.workspace });
      says = T.says;
      refused_is = T.refused_is;
    }

    pub offer_held : o.reply ≡ Ok tt → Telling o.workspace (code.Held e.name) [] old new r → Carries w i t before after old new r
    offer_held x T = carried (code.Held e.name) [] T (rw x refl)

    pub offer_refused : (k : Refusal) → o.reply ≡ Err k → (n : ℕ) → n ≡ brought_lines (brings k) → (names : List ℕ) → CitesIn n after names → Telling o.workspace (code.Refused k) names old new r
        → Carries w i t before after old new r
    offer_refused k x n z names C T = carried (code.Refused k) names T (rw x (go (brings k) (beside k x) (rw z at C)))
      where
        go : (b : Brought) → LeftBehind (offered (state_of w) e) before after (refusal_number k) b → CitesIn (brought_lines b) after names
            → SpokenBeside after (refusal_number k) b (refused (refusal_number k) names)
        go nothing h C = ap (refused (refusal_number k)) (C.none refl)
        go (proof n) h C = record { names = names; cited = C.some h.some; answer = refl }
        go (place n) h C = absurd h

-- ---- a query

-- a reply that cites has 1 to 8,192 lines
abbrev counted : Result Standing Refusal → Bool
counted (Ok (stands.Same n)) = leb 1 n && leb n 8192
counted (Ok (stands.Below n)) = leb 1 n && leb n 8192
counted (Ok (stands.Above n)) = leb 1 n && leb n 8192
counted (Ok stands.Apart) = true
counted (Err k) = true

some_lines : (n : ℕ) → leb 1 n && leb n 8192 ≡ true → 1 ≤ n
some_lines n h = leb-true 1 n (and_parts _ _ h).0

few_lines : (n : ℕ) → leb 1 n && leb n 8192 ≡ true → n ≤ 8192
few_lines n h = leb-true n 8192 (and_parts _ _ h).1

module _ (w : Workspace) (x y : ℕ) (before after : List ℕ) where
  proof_counted : {s : State} {g : Goal} (n : ℕ) → ProofIn s g n before after → leb 1 n && leb n 8192 ≡ true
  proof_counted n p = rw (le-leb 1 n p.some, le-leb n 8192 p.few)

  stands_counted : (r : Result Standing Refusal) → compare.StandsAs (state_of w) x y before after r → counted r ≡ true
  stands_counted (Ok (stands.Same n)) (compare.same p q) = proof_counted n q
  stands_counted (Ok (stands.Below n)) (compare.below m p q) = proof_counted n q
  stands_counted (Ok (stands.Above n)) (compare.above m k p q) = proof_counted n q
  stands_counted (Ok stands.Apart) (compare.apart m k j q) = refl
  stands_counted (Err k) h = absurd h

  replies_counted : (o : Option ℕ) (r : Result Standing Refusal) → compare.Replies o (state_of w) x y before after r → counted r ≡ true
  replies_counted none r h = stands_counted r h
  replies_counted (some k) r h = ap counted h.0

  module _ (o : Outcome Standing) (q : compare.Compares w x y before after o) where
    -- whether the value is a workspace need not be decided: a reply is counted or not
    compare_counted : counted o.reply ≡ true
    compare_counted = go (counted o.reply) refl
      where
        go : (b : Bool) → counted o.reply ≡ b → b ≡ true
        go true e = refl
        go false e =
            let bad : Valid w → ⊥ = λ ok. let h = replies_counted (compare.refusal_of (state_of w) x y (length before)) o.reply (q.replies ok) in let z : ◌≡◌ {A = ℕ} 0 1 = cc in omega arith in
            sym e ∙ ap counted (q.refuses bad).0

    counted_as : (s : Standing) → o.reply ≡ Ok s → counted (Ok s) ≡ true
    counted_as s e = ap counted (sym e) ∙ compare_counted

    pub compare_lines : (s : Standing) → o.reply ≡ Ok s → stance_lines s ≤ 8192
    compare_lines s e = go s (counted_as s e)
      where
        go : (r : Standing) → counted (Ok r) ≡ true → stance_lines r ≤ 8192
        go (stands.Same n) h = few_lines n h
        go (stands.Below n) h = few_lines n h
        go (stands.Above n) h = few_lines n h
        go stands.Apart h = omega arith

    module _ {old new : List ℕ} {r : Carried} (i : ℕ) where
      carried_query : (a : Code) (names : List ℕ) (T : Telling o.workspace a names old new r) → Stated after o.reply (meant a names) → Carries w i (some (order.query x y)) before after old new r
      carried_query a names T h = record {
        answer = meant a names;
        does = record { compared = o; compares = q; said = h; workspace = T.workspace };
        says = T.says;
        refused_is = T.refused_is;
      }

      pub query_stands : (s : Standing) (a : Code) → o.reply ≡ Ok s → Means (stance_answered s) a → (n : ℕ) → n ≡ stance_lines s → (names : List ℕ) → CitesIn n after names → Telling o.workspace a names old new r
          → Carries w i (some (order.query x y)) before after old new r
      query_stands s a e m n z names C T = carried_query a names T (rw e (go s m (counted_as s e) (rw z at C)))
        where
          go : (s : Standing) → Means (stance_answered s) a → counted (Ok s) ≡ true → CitesIn (stance_lines s) after names → Stated after (Ok s) (meant a names)
          go (stands.Same n) m h C = record { names = names; cited = C.some (some_lines n h); answer = m.means names }
          go (stands.Below n) m h C = record { names = names; cited = C.some (some_lines n h); answer = m.means names }
          go (stands.Above n) m h C = record { names = names; cited = C.some (some_lines n h); answer = m.means names }
          go stands.Apart m h C = m.means names

      pub query_refused : (k : Refusal) → o.reply ≡ Err k → Telling o.workspace (code.Refused k) [] old new r → Carries w i (some (order.query x y)) before after old new r
      query_refused k e T = carried_query (code.Refused k) [] T (rw e refl)
