-- One step of a cursor: the code's, and as the program's loop sees it.
use mathlib.Core.Path.{◌≡◌, refl, sym, ap, ◌∙◌, subst}
use mathlib.Core.Bool.{Bool, true, false, cond}
use mathlib.Core.List.{List, [], ◌∷◌}
use mathlib.Core.Option.{none}
use Prim.Native.Nat.{ℕ, ◌+◌, ◌-◌, ◌≤◌, ◌<◌}
use native.Mathlib.Omega.{arith}
use lib.ListN.{length, take, drop, length-append}
use lib.Seq.{take-append_seam}
use Rattle.graph.specs.Limits.{buffer_bytes}
use Rattle.unifier.specs.Views.{fresh_workspace}
use Rattle.unifier.specs.declared.Workspace.{Workspace}
use Rattle.eqtrace_orders.specs.Input.{first_line, EndsAt}
use Rattle.eqtrace_answers.specs.Text.{Output, unreadable, word_of, text_of}
use Rattle.eqtrace_answers.specs.Puts.{Puts, Says, answer_room}
use Rattle.eqtrace_script.specs.Script.{refuses, next_place, is_keep}
use Rattle.eqtrace_script.proofs.ScriptLaws.{first_line_lem, place_on}
use Rattle.eqtrace_session.specs.Steps.{cursor_at, beginning, left_of, TooLong, StepsBy, Steps}
use Rattle.eqtrace_carry.specs.Carried.{Carries}
use Rattle.eqtrace_carry.specs.declared.Carried.{Carried}
use Rattle.eqtrace_session.specs.declared.Cursor.{Cursor}
use Rattle.eqtrace_session.specs.declared.Left.{Left}
use Rattle.eqtrace_session.specs.declared.Left.TheVariants as left
use Rattle.eqtrace_session.specs.declared.Stepped.{Stepped}
use Rattle.eqtrace_session.proofs.LeftLaws.{within}

-- ---- the text of a step

pub text_is : (old new bytes : List ℕ) (n : ℕ) → Puts old 0 bytes new n → take n new ≡ bytes
text_is old new bytes n p =
    let e : n ≡ length bytes = omega (arith, p.end) in
    rw (e, p.written) (take-append_seam bytes (drop (0 + length bytes) old))

text_inside : (old new bytes : List ℕ) (n : ℕ) → Puts old 0 bytes new n → n ≤ length new
text_inside old new bytes n p = omega (arith, p.end, ap length p.written, length-append bytes (drop (0 + length bytes) old))

-- ---- the code's cursors

pub cursor_begun : (input : List ℕ) (end : ℕ) (w : Workspace) → EndsAt input 0 end → w ≡ fresh_workspace → (keep : Bool) → is_keep (take (end - 0) input) ≡ keep
    → cond keep (cursor_at true w 2 2) (cursor_at false w 0 1) ≡ beginning input
cursor_begun input end w e f keep k =
    let q : is_keep (first_line input) ≡ keep = ap is_keep (sym (first_line_lem input end e)) ∙ k in
    rw (f, q)

pub cursor_next : (keep : Bool) (a : Output) (w : Workspace) (end size i at : ℕ) (refused : Bool) → refused ≡ refuses a → at ≡ next_place keep refused end size
    → cursor_at keep w at i ≡ cursor_at keep w (next_place keep (refuses a) end size) i
cursor_next keep a w end size i at refused f e = rw (e, f)

-- ---- the code's steps

pub said_too_long : (c : Cursor) (input old new : List ℕ) (t : Carried) → Carries c.workspace 0 none [] [] old new t
    → TooLong c input old new (record { cursor = cursor_at c.keep t.workspace (length input) c.number; length = t.length })
said_too_long c input old new t C = record {
  says = subst (λ (a : Output). Says a old new t.length) C.does.said C.says;
  cursor = ap (λ (v : Workspace). cursor_at c.keep v (length input) c.number) C.does.workspace;
}

pub steps_at : (c : Cursor) (input before after old new : List ℕ) (r : Stepped) (l : Left) → l ≡ left_of input c.at c.number → StepsBy l c input before after old new r
    → length before ≡ buffer_bytes → length new ≡ answer_room → Steps c input before after old new r
steps_at c input before after old new r l e s p t = record { step = rw (← e) s; proof_size = p; text_size = t }

-- ---- a step as the program's loop sees it

text_some : (a : Output) → 1 ≤ length (text_of a)
text_some a = omega (arith, length-append (word_of a) (10 ∷ []))

-- a text was said, and the cursor moved on
record Moves (c : Cursor) (input old new : List ℕ) (r : Stepped) : Type 0 where
  pub answer : Output
  pub says : Says answer old new r.length
  pub inside : c.at < length input
  pub on : c.at < r.cursor.at

module _ (c : Cursor) (input before after old new : List ℕ) (r : Stepped) where
  moves : (l : Left) → left_of input c.at c.number ≡ l → (l ≡ left.Nothing → ⊥) → StepsBy l c input before after old new r → Moves c input old new r
  moves left.Nothing e n s = absurd (n refl)
  moves left.TooLong e n s =
      let b = within input c.at c.number left.TooLong e true refl in
      record { answer = unreadable 0; says = s.0.says; inside = b.inside; on = omega (arith, b.inside, ap (λ (d : Cursor). d.at) s.0.cursor) }
  moves left.Order e n s =
      let b = within input c.at c.number left.Order e false refl in
      record {
        answer = s.carries.answer;
        says = subst (λ (k : ℕ). Says s.carries.answer old new k) (sym s.length_is) s.carries.says;
        inside = b.inside;
        on = omega (arith, place_on c.keep (refuses s.carries.answer) c.at s.end (length input) (omega (arith, s.ends.end_at)) b.inside, ap (λ (d : Cursor). d.at) s.cursor);
      }

  -- a step without a text leaves nothing; any other moves on
  pub record Seen : Type 0 where
    pub over : r.length ≡ 0 → left_of input r.cursor.at r.cursor.number ≡ left.Nothing
    pub on : (r.length ≡ 0 → ⊥) → (c.at < length input) × (c.at < r.cursor.at)
    pub room : r.length ≤ length new

  seen_moves : Moves c input old new r → Seen
  seen_moves M = record {
    over = λ z. absurd (omega (arith, z, M.says.end, text_some M.answer));
    on = λ z. (M.inside, M.on);
    room = text_inside old new (text_of M.answer) r.length M.says;
  }

  pub seen : Steps c input before after old new r → Seen
  seen s = go (left_of input c.at c.number) refl s.step
    where
      go : (l : Left) → left_of input c.at c.number ≡ l → StepsBy l c input before after old new r → Seen
      go left.Nothing e s = record {
        over = λ z. ap (λ (x : Stepped). left_of input x.cursor.at x.cursor.number) s.0 ∙ e;
        on = λ z. absurd (z (ap (λ (x : Stepped). x.length) s.0));
        room = let z : r.length ≡ 0 = ap (λ (x : Stepped). x.length) s.0 in omega arith;
      }
      go left.TooLong e s = seen_moves (moves left.TooLong e (λ q. cc) s)
      go left.Order e s = seen_moves (moves left.Order e (λ q. cc) s)
