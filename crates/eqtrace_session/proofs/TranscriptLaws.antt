-- All steps of a cursor print what is printed for the input.
use mathlib.Core.Path.{◌≡◌, refl, sym, ap, ◌∙◌, subst}
use mathlib.Core.Bool.{Bool, true, false, cond}
use mathlib.Core.List.{List, [], ◌∷◌, ◌++◌, append_assoc, append-nil, map}
use Prim.Native.Nat.{ℕ, suc, ◌+◌, ◌-◌, ◌≤◌, ◌<◌}
use native.Mathlib.Omega.{arith}
use lib.ListN.{length, take, drop}
use lib.Dec.{leb, ltb}
use borrow.Author.Tests.{leb-true, ltb-true, ltb-false, le-ltb}
use Rattle.unifier.specs.Views.{Valid, packed, fresh_workspace}
use Rattle.unifier.specs.declared.Workspace.{Workspace}
use Rattle.unifier.proofs.PackedLaws.{fresh_valid, fresh_packed}
use Rattle.graph.specs.Limits.{buffer_bytes}
use Rattle.graph.specs.State.{State, empty_state}
use Rattle.eqtrace_orders.specs.Grammar.{orders_in}
use Rattle.eqtrace_orders.specs.Input.{first_line}
use Rattle.eqtrace_orders.proofs.InputLaws.{orders_none, orders_some, orders_at, orders_end}
use Rattle.eqtrace_answers.specs.Text.{Output, unreadable, text_of}
use Rattle.eqtrace_answers.specs.Puts.{Says}
use Rattle.eqtrace_script.specs.Script.{input_limit, refuses, goes_on, left_after, next_place, is_keep, script_of}
use Rattle.eqtrace_script.proofs.ScriptLaws.{keep_length, place_on}
use Rattle.eqtrace_session.specs.Program.{forget, Session}
use Rattle.eqtrace_session.specs.Program as told
use Rattle.eqtrace_session.specs.Transcript.{texts_of, script_in, too_long, AnswersBy, AnswersTo, ToldBy, Printed, Finished}
use Rattle.eqtrace_session.specs.Steps.{cursor_at, beginning, left_of, StepsBy, Steps, Run, begun, stepped, Transcript}
use Rattle.eqtrace_session.specs.declared.Cursor.{Cursor}
use Rattle.eqtrace_session.specs.declared.Left.{Left}
use Rattle.eqtrace_session.specs.declared.Left.TheVariants as left
use Rattle.eqtrace_session.specs.declared.Stepped.{Stepped}
use Rattle.eqtrace_session.proofs.LeftLaws.{left_nothing, left_over, within}
use Rattle.eqtrace_session.proofs.SessionLaws.{faithful}
use Rattle.eqtrace_session.proofs.TellsLaws.{told_unique}
use Rattle.eqtrace_session.proofs.StepLaws.{text_is, seen}

-- ---- the answers that are still to come

abbrev RestBy : Left → List ℕ → Cursor → List Output → Workspace → Type 0
RestBy left.Nothing input c answers w = (answers ≡ []) × (w ≡ c.workspace)
RestBy left.TooLong input c answers w = (answers ≡ unreadable 0 ∷ []) × (w ≡ c.workspace)
RestBy left.Order input c answers w = Session c.keep c.workspace c.number (orders_in (drop c.at input)) answers w

-- what is still to come at a cursor
abbrev Rest : List ℕ → Cursor → List Output → Workspace → Type 0
Rest input c answers w = RestBy (left_of input c.at c.number) input c answers w

-- the bytes are the texts of answers that were to come at b
record AnsweredFrom (b : Cursor) (input output : List ℕ) (w : Workspace) : Type 0 where
  pub answers : List Output
  pub text : output ≡ texts_of answers
  pub given : Rest input b answers w

texts_more : (output text : List ℕ) (a : Output) (answers : List Output) → text ≡ text_of a → (output ++ text) ++ texts_of answers ≡ output ++ texts_of (a ∷ answers)
texts_more output text a answers e = append_assoc output text (texts_of answers) ∙ ap (λ (x : List ℕ). output ++ (x ++ texts_of answers)) e

-- after these bytes, the answers still to come are the rest of those that were to come at b
record Reached (b : Cursor) (input output : List ℕ) (c : Cursor) : Type 0 where
  pub rest : (answers : List Output) (w : Workspace) → Rest input c answers w → AnsweredFrom b input (output ++ texts_of answers) w
  -- each order has at least its line break
  pub placed : c.number ≤ c.at + 1

reached_none : (b : Cursor) (input : List ℕ) → b.number ≤ b.at + 1 → Reached b input [] b
reached_none b input h = record { rest = λ answers w r. record { answers = answers; text = refl; given = r }; placed = h }

-- ---- one step more

module _ (b : Cursor) (input output : List ℕ) (c : Cursor) (R : Reached b input output c) (before after old new : List ℕ) (r : Stepped) where
  more_nothing : left_of input c.at c.number ≡ left.Nothing → StepsBy left.Nothing c input before after old new r → Reached b input (output ++ take r.length new) r.cursor
  more_nothing e s =
      let o : output ++ take r.length new ≡ output = ap (λ (x : Stepped). output ++ take x.length new) s.0 ∙ append-nil output in
      rw (o, ap (λ (x : Stepped). x.cursor) s.0) R

  -- one answer more: what is still to come behind it, with it in front, is what was still to come
  more_answer : (a : Output) (d : Cursor) → r.cursor ≡ d → Says a old new r.length → d.number ≤ d.at + 1
      → ((answers : List Output) (w : Workspace) → Rest input d answers w → Rest input c (a ∷ answers) w)
      → Reached b input (output ++ take r.length new) r.cursor
  more_answer a d q s n k = rw q (record {
    rest = λ answers w h.
        let A = R.rest (a ∷ answers) w (k answers w h) in
        record { answers = A.answers; text = texts_more output (take r.length new) a answers (text_is old new (text_of a) r.length s) ∙ A.text; given = A.given };
    placed = n;
  })

  more_too_long : left_of input c.at c.number ≡ left.TooLong → StepsBy left.TooLong c input before after old new r → Reached b input (output ++ take r.length new) r.cursor
  more_too_long e s =
      let at = within input c.at c.number left.TooLong e true refl in
      let d : Cursor = cursor_at c.keep c.workspace (length input) c.number in
      let l : left_of input (length input) c.number ≡ left.Nothing = sym (left_nothing input (length input) c.number (omega arith)) in
      more_answer (unreadable 0) d s.0.cursor s.0.says (omega (arith, at.number, ltb-true input_limit (length input) at.long))
      (λ answers w h. let g : RestBy left.Nothing input d answers w = subst (λ (x : Left). RestBy x input d answers w) l h in
      subst (λ (x : Left). RestBy x input c (unreadable 0 ∷ answers) w) (sym e) (ap (λ (x : List Output). unreadable 0 ∷ x) g.0, g.1))

  more_order : left_of input c.at c.number ≡ left.Order → length before ≡ buffer_bytes → StepsBy left.Order c input before after old new r → Reached b input (output ++ take r.length new) r.cursor
  more_order e n s =
      let at = within input c.at c.number left.Order e false refl in
      let short : length input ≤ input_limit = ltb-false input_limit (length input) at.long in
      let w' : Workspace = s.carried.workspace in
      let line : List ℕ = take (s.end - c.at) (drop c.at input) in
      let a : Output = s.carries.answer in
      let next : ℕ = next_place c.keep (refuses a) s.end (length input) in
      let on : c.at < next = place_on c.keep (refuses a) c.at s.end (length input) (omega (arith, s.ends.end_at)) at.inside in
      let placed : c.number + 1 ≤ next + 1 = omega (arith, R.placed, on) in
      let o : orders_in (drop c.at input) ≡ line ∷ orders_in (drop (s.end + 1) input) = orders_at input c.at s.end at.inside s.ends in
      more_answer a (cursor_at c.keep w' next (c.number + 1)) s.cursor (subst (λ (k : ℕ). Says a old new k) (sym s.length_is) s.carries.says) placed
      (λ answers w h.
      let g : Session c.keep w' (c.number + 1) (orders_in (drop next input)) answers w = rest_orders w' next (c.number + 1) short placed answers w (left_of input next (c.number + 1)) refl h in
      let k : Session c.keep w' (c.number + 1) (left_after c.keep a (orders_in (drop (s.end + 1) input))) answers w =
      subst (λ (ls : List (List ℕ)). Session c.keep w' (c.number + 1) ls answers w) (left_after_lem (goes_on c.keep (refuses a)) s.end) g in
      subst (λ (x : Left). RestBy x input c (a ∷ answers) w) (sym e) (rw o (told.next before after n s.carries.does k)))
    where
      rest_orders : (v : Workspace) (at i : ℕ) → length input ≤ input_limit → i ≤ at + 1 → (answers : List Output) (w : Workspace) (l : Left) → left_of input at i ≡ l
          → RestBy l input (cursor_at c.keep v at i) answers w → Session c.keep v i (orders_in (drop at input)) answers w
      rest_orders v at i short placed answers w left.Nothing q h = rw (orders_end input at (left_over input at i q short placed), h.0, h.1) told.over
      rest_orders v at i short placed answers w left.TooLong q h = let b = within input at i left.TooLong q true refl in absurd (omega (arith, ltb-true input_limit (length input) b.long, short))
      rest_orders v at i short placed answers w left.Order q h = h

      -- the lines from the next place on are those left
      left_after_lem : (on : Bool) (end : ℕ) → orders_in (drop (cond on (end + 1) (length input)) input) ≡ cond on (orders_in (drop (end + 1) input)) []
      left_after_lem true end = refl
      left_after_lem false end = orders_end input (length input) (omega arith)

  reached_more : Steps c input before after old new r → Reached b input (output ++ take r.length new) r.cursor
  reached_more s = go (left_of input c.at c.number) refl s.step
    where
      go : (l : Left) → left_of input c.at c.number ≡ l → StepsBy l c input before after old new r → Reached b input (output ++ take r.length new) r.cursor
      go left.Nothing e s = more_nothing e s
      go left.TooLong e s = more_too_long e s
      go left.Order e t = more_order e s.proof_size t

-- ---- all steps

reached : {b : Cursor} {input output : List ℕ} {c : Cursor} → b.number ≤ b.at + 1 → Run b input output c → Reached b input output c
reached {b} {input} h begun = reached_none b input h
reached {b} {input} h (stepped {output} {c} before after old new r run s) = reached_more b input output c (reached h run) before after old new r s

-- a run that leaves nothing has printed all that was to come where it began
answered_from : (b : Cursor) (input output : List ℕ) (c : Cursor) → b.number ≤ b.at + 1 → Run b input output c → left_of input c.at c.number ≡ left.Nothing
    → AnsweredFrom b input output c.workspace
answered_from b input output c h run e =
    let A = (reached h run).rest [] c.workspace (subst (λ (l : Left). RestBy l input c [] c.workspace) (sym e) (refl, refl)) in
    record { answers = A.answers; text = sym (append-nil output) ∙ A.text; given = A.given }

-- ---- from the beginning

-- whether or not the first line is `K`
record Begins (input : List ℕ) (b : Cursor) : Type 0 where
  pub fresh : b.workspace ≡ fresh_workspace
  pub early : b.at ≤ 2
  pub placed : b.number ≤ b.at + 1
  pub script : script_in input ≡ record { keep = b.keep; first = b.number; orders = orders_in (drop b.at input) }

begins : (input : List ℕ) → Begins input (beginning input)
begins [] = record { fresh = refl; early = omega arith; placed = omega arith; script = rw orders_none }
begins (x ∷ l) = go (is_keep (first_line (x ∷ l))) refl
  where
    go : (b : Bool) → is_keep (first_line (x ∷ l)) ≡ b → Begins (x ∷ l) (cond b (cursor_at true fresh_workspace 2 2) (cursor_at false fresh_workspace 0 1))
    go true e =
        let n : suc (length (first_line (x ∷ l))) ≡ 2 = omega (arith, keep_length (first_line (x ∷ l)) e) in
        let o : orders_in (x ∷ l) ≡ first_line (x ∷ l) ∷ orders_in (drop 2 (x ∷ l)) = orders_some x l ∙ ap (λ (k : ℕ). first_line (x ∷ l) ∷ orders_in (drop k (x ∷ l))) n in
        record { fresh = refl; early = omega arith; placed = omega arith; script = ap script_of o ∙ rw e }
    go false e =
        let o = orders_some x l in
        record { fresh = refl; early = omega arith; placed = omega arith; script = ap script_of o ∙ rw (e, o) }

-- from a place that every longer input has, what is to come is the one answer of an input too long, or the orders from there on
rest_whole : (b : Cursor) (input : List ℕ) → b.at ≤ input_limit → b.number ≤ input_limit → (answers : List Output) (w : Workspace) → Rest input b answers w
    → RestBy (cond (too_long input) left.TooLong left.Order) input b answers w
unfolding left_of
rest_whole b input h n answers w r = go (leb (length input) b.at) (ltb input_limit b.number) (too_long input) refl (le-ltb input_limit b.number n) refl r
  where
    go : (x y z : Bool) → leb (length input) b.at ≡ x → y ≡ false → too_long input ≡ z
        → RestBy (cond x left.Nothing (cond y left.Nothing (cond z left.TooLong left.Order))) input b answers w → RestBy (cond z left.TooLong left.Order) input b answers w
    go true y true p q e r = absurd (omega (arith, ltb-true input_limit (length input) e, leb-true (length input) b.at p))
    go true y false p q e r = rw (orders_end input b.at (leb-true (length input) b.at p), r.0, r.1) told.over
    go false true z p q e r = cc
    go false false z p q e r = r

answers_to : (b : Cursor) (input : List ℕ) → Begins input b → (answers : List Output) (w : Workspace) → Rest input b answers w → AnswersTo input answers w
answers_to b input B answers w r = go (too_long input) (rest_whole b input (omega (arith, B.early)) (omega (arith, B.early, B.placed)) answers w r)
  where
    go : (z : Bool) → RestBy (cond z left.TooLong left.Order) input b answers w → AnswersBy z input answers w
    go true r = (r.0, r.1 ∙ B.fresh)
    go false r = rw (B.script, ← B.fresh) r

record Booked (z : Bool) (input : List ℕ) (answers : List Output) (w : Workspace) : Type 0 where
  pub state : State
  pub told : ToldBy z input (map forget answers) state
  pub workspace : w ≡ packed state
  pub valid : Valid w

booked : (z : Bool) (input : List ℕ) (answers : List Output) (w : Workspace) → AnswersBy z input answers w → Booked z input answers w
booked true input answers w h = record { state = empty_state; told = (ap (map forget) h.0, refl); workspace = h.1 ∙ fresh_packed; valid = subst Valid (sym h.1) fresh_valid }
booked false input answers w h =
    let F = faithful (script_in input) answers w h in
    record { state = F.state; told = F.told; workspace = F.workspace; valid = F.valid }

printed : (input output : List ℕ) (c : Cursor) → Run (beginning input) input output c → left_of input c.at c.number ≡ left.Nothing → Printed input output c.workspace
printed input output c run e =
    let b = begins input in
    let A = answered_from (beginning input) input output c b.placed run e in
    let g = answers_to (beginning input) input b A.answers c.workspace A.given in
    let B = booked (too_long input) input A.answers c.workspace g in
    record {
      answers = A.answers;
      text = A.text;
      given = g;
      state = B.state;
      told = B.told;
      workspace = B.workspace;
      valid = B.valid;
    }

-- ---- the claim

one : (input output other : List ℕ) (w v : Workspace) (P : Printed input output w) (Q : Printed input other v) → (map forget P.answers ≡ map forget Q.answers) × (w ≡ v)
one input output other w v P Q =
    let u = told_unique input (map forget P.answers) (map forget Q.answers) P.state Q.state P.told Q.told in
    (u.0, P.workspace ∙ ap packed u.1 ∙ sym Q.workspace)

pub transcript : Transcript
transcript = record { prints = printed; on = λ c input before after old new r s. (seen c input before after old new r s).on; one = one }

-- ---- the program's loop

pub record Going (input : List ℕ) (c : Cursor) : Type 0 where
  pub output : List ℕ
  pub run : Run (beginning input) input output c

pub going_none : (input : List ℕ) (c : Cursor) → c ≡ beginning input → Going input c
going_none input c e = record { output = []; run = rw e begun }

module _ (input : List ℕ) (c : Cursor) (G : Going input c) (before after old new : List ℕ) (r : Stepped) (s : Steps c input before after old new r) where
  pub going_more : Going input r.cursor
  going_more = record { output = G.output ++ take r.length new; run = stepped before after old new r G.run s }

  pub finished : r.length ≡ 0 → (w : Workspace) → w ≡ r.cursor.workspace → Finished input w
  finished z w e =
      let M = going_more in
      record { output = M.output; printed = rw e (printed input M.output r.cursor M.run ((seen c input before after old new r s).over z)) }
