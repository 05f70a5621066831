-- What is written for an input: by the steps so far, and at the end.
use Rattle.std.proofs.Common.{◌≡◌, ◌<◌, ℕ, Bool, true, false, List, [], ◌++◌, map, length, take, refl, sym, ap, ◌∙◌, subst, append-nil, arith, leb, Option, Some, None, Result, Ok, Err, IsOk, OnOk, IfSome}
use Rattle.std.proofs.lemmas.List.{take_all, length-take-le}
use Rattle.std.proofs.lemmas.Bool.{leb-true, leb-false, lt-ltb}
use Rattle.std.specs.Io.KnownBytes.{Appends}
use Rattle.std.proofs.KnownBytes.{Appends-nil, Appends-trans}
use Rattle.unifier.specs.declared.Workspace.{Workspace}
use Rattle.eqtrace_script.specs.Script.{input_limit}
use Rattle.eqtrace_session.specs.Program.{forget}
use Rattle.eqtrace_session.specs.Transcript.{too_long, AnswersBy, ToldBy, Printed, Finished}
use Rattle.eqtrace_session.specs.Steps.{beginning, Steps, Run, begun, stepped}
use Rattle.eqtrace_session.specs.declared.Cursor.{Cursor}
use Rattle.eqtrace_session.specs.declared.Stepped.{Stepped}
use Rattle.eqtrace_session.proofs.StepLaws.{seen}
use Rattle.eqtrace_session.proofs.TranscriptLaws.{transcript, finished}
use Rattle.eqtrace_console.specs.Console.{WritesAnswers}

-- ---- the program's loop

-- the steps so far, and what they wrote, if no write failed
pub record SoFar {E : Type 0} (before after : Option (List ℕ)) (written : Result (Unit {0}) E) (input : List ℕ) (c : Cursor) : Type 0 where
  pub output : List ℕ
  pub run : Run (beginning input) input output c
  pub appended : OnOk written (Appends before after output)

on_ok : {E : Type 0} (r : Result (Unit {0}) E) {P : Type 0} → P → OnOk r P
on_ok (Ok x) p = p
on_ok (Err e) p = tt

pub so_far_none : {E : Type 0} (known : Option (List ℕ)) (written : Result (Unit {0}) E) (input : List ℕ) (c : Cursor) → c ≡ beginning input → SoFar known known written input c
so_far_none known written input c e = record { output = []; run = rw e begun; appended = on_ok written (Appends-nil known) }

-- a write that was made leaves what was written before it and its text
appended_more : {E : Type 0} (a b c : Option (List ℕ)) (output text : List ℕ) (before after : Result (Unit {0}) E) → OnOk before (Appends a b output) → OnOk after (IsOk before)
    → OnOk after (Appends b c text) → OnOk after (Appends a c (output ++ text))
appended_more a b c output text (Ok x) (Ok y) p q r = Appends-trans a b c output text p r
appended_more a b c output text (Err x) (Ok y) p q r = absurd (cc)
appended_more a b c output text before (Err y) p q r = tt

module _ {E : Type 0} (a b : Option (List ℕ)) (w : Result (Unit {0}) E) (input : List ℕ) (c : Cursor) (S : SoFar a b w input c)
    (before after old new : List ℕ) (r : Stepped) (s : Steps c input before after old new r) where
  pub so_far_more : (d : Option (List ℕ)) (v : Result (Unit {0}) E) → OnOk v (IsOk w) → OnOk v (Appends b d (take r.length new)) → SoFar a d v input r.cursor
  so_far_more d v p q = record {
    output = S.output ++ take r.length new;
    run = stepped before after old new r S.run s;
    appended = appended_more a b d S.output (take r.length new) w v S.appended p q;
  }

  -- a step without a text: what was printed is what the steps before it wrote
  printed_all : r.length ≡ 0 → Printed input S.output r.cursor.workspace
  printed_all z =
      let o : S.output ++ take r.length new ≡ S.output = ap (λ (n : ℕ). S.output ++ take n new) z ∙ append-nil S.output in
      subst (λ (x : List ℕ). Printed input x r.cursor.workspace) o
      (transcript.prints input (S.output ++ take r.length new) r.cursor (stepped before after old new r S.run s) ((seen c input before after old new r s).over z))

  pub ended : r.length ≡ 0 → (v : Workspace) → v ≡ r.cursor.workspace → Finished input v
  ended z v e = finished input c (record { output = S.output; run = S.run }) before after old new r s z v e

  pub answers_written : r.length ≡ 0 → (v : Workspace) → v ≡ r.cursor.workspace → OnOk w (WritesAnswers a b input v)
  answers_written z v e = go w S.appended
    where
      go : (x : Result (Unit {0}) E) → OnOk x (Appends a b S.output) → OnOk x (WritesAnswers a b input v)
      go (Ok x) p = record { output = S.output; appended = p; printed = rw e (printed_all z) }
      go (Err x) p = tt

-- ---- an input of which no more is read than tells that it is too long

printed_front : (n : ℕ) (input output : List ℕ) (w : Workspace) → input_limit < n → Printed (take n input) output w → Printed input output w
printed_front n input output w h P = go (leb (length input) n) refl
  where
    too_long_both : n < length input → too_long (take n input) ≡ too_long input
    too_long_both k = lt-ltb input_limit (length (take n input)) (omega (arith, length-take-le n input (omega arith))) ∙ sym (lt-ltb input_limit (length input) (omega arith))

    cut : (z : Bool) → too_long (take n input) ≡ z → too_long input ≡ z → z ≡ true → Printed input output w
    cut false e f k = absurd (cc)
    cut true e f k =
        let g : AnswersBy true (take n input) P.answers w = subst (λ (x : Bool). AnswersBy x (take n input) P.answers w) e P.given in
        let t : ToldBy true (take n input) (map forget P.answers) P.state = subst (λ (x : Bool). ToldBy x (take n input) (map forget P.answers) P.state) e P.told in
        record {
          answers = P.answers;
          text = P.text;
          given = subst (λ (x : Bool). AnswersBy x input P.answers w) (sym f) g;
          state = P.state;
          told = subst (λ (x : Bool). ToldBy x input (map forget P.answers) P.state) (sym f) t;
          workspace = P.workspace;
          valid = P.valid;
        }

    go : (z : Bool) → leb (length input) n ≡ z → Printed input output w
    go true e = subst (λ (x : List ℕ). Printed x output w) (take_all n input (leb-true (length input) n e)) P
    go false e =
        let k : n < length input = leb-false (length input) n e in
        let f : too_long input ≡ true = lt-ltb input_limit (length input) (omega arith) in
        cut true (too_long_both k ∙ f) f refl

-- what was written for the bytes that were read is what is to be written for all that the reader had
pub answers_read : {E : Type 0} (v : Result (Unit {0}) E) (a b known : Option (List ℕ)) (part : List ℕ) (n : ℕ) (w : Workspace) → input_limit < n → IfSome known (λ xs. part ≡ take n xs)
    → OnOk v (WritesAnswers a b part w) → OnOk v (IfSome known (λ xs. (u : Workspace) × WritesAnswers a b xs u))
answers_read (Ok x) a b None part n w h e A = tt
answers_read (Ok x) a b (Some xs) part n w h e A =
    (w, record { output = A.output; appended = A.appended; printed = printed_front n xs A.output w h (subst (λ (l : List ℕ). Printed l A.output w) e A.printed) })
answers_read (Err x) a b known part n w h e A = tt
