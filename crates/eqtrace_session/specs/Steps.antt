-- An input read by a cursor, order by order, and the claim about all steps of a cursor: what they print is what `Printed` says.
--   beginning    where an input's script begins: behind a first line `K`, or at the first byte
--   left_of      what is left of an input at a place, with the number of the order there
--   Steps        one step: the text at the start of the lent buffer `out`, and the cursor behind it. `before` and `after` are the proof buffer,
--                `old` and `new` the one of the text
--   Run          steps over an input from a cursor on: the bytes that they printed, and the cursor behind them
--   Transcript   the claim: about every run that leaves nothing, about one step, and that the answers are unique
use Rattle.std.specs.Prelude.{◌≡◌, Bool, true, false, cond, List, [], ◌++◌, map, ℕ, ◌+◌, ◌-◌, ◌<◌, length, take, drop, ltb, leb}
use Rattle.graph.specs.Limits.{buffer_bytes}
use Rattle.unifier.specs.Views.{fresh_workspace}
use Rattle.unifier.specs.declared.Workspace.{Workspace}
use Rattle.eqtrace_orders.specs.Grammar.{order_of}
use Rattle.eqtrace_orders.specs.Input.{first_line, EndsAt}
use Rattle.eqtrace_answers.specs.Text.{unreadable}
use Rattle.eqtrace_answers.specs.Puts.{Says, answer_room}
use Rattle.eqtrace_script.specs.Script.{input_limit, refuses, next_place, is_keep}
use Rattle.eqtrace_carry.specs.Carried.{Carries}
use Rattle.eqtrace_session.specs.Program.{forget}
use Rattle.eqtrace_session.specs.Transcript.{too_long, Printed}
use Rattle.eqtrace_carry.specs.declared.Carried.{Carried}
use Rattle.eqtrace_session.specs.declared.Cursor.{Cursor}
use Rattle.eqtrace_session.specs.declared.Left.{Left}
use Rattle.eqtrace_session.specs.declared.Left.TheVariants as left
use Rattle.eqtrace_session.specs.declared.Stepped.{Stepped}

abbrev pub cursor_at : Bool → Workspace → ℕ → ℕ → Cursor
cursor_at keep w at i = record { keep = keep; workspace = w; at = at; number = i }

-- `K` and its line break are two bytes
abbrev pub beginning : List ℕ → Cursor
beginning input = cond (is_keep (first_line input)) (cursor_at true fresh_workspace 2 2) (cursor_at false fresh_workspace 0 1)

-- no run comes to an order above the limit: that clause serves cursors that no run gives
unfoldable pub left_of : List ℕ → ℕ → ℕ → Left
left_of input at i = cond (leb (length input) at) left.Nothing (cond (ltb input_limit i) left.Nothing (cond (too_long input) left.TooLong left.Order))

pub record TooLong (c : Cursor) (input old new : List ℕ) (r : Stepped) : Type 0 where
  pub says : Says (unreadable 0) old new r.length
  pub cursor : r.cursor ≡ cursor_at c.keep c.workspace (length input) c.number

pub record OrderAt (c : Cursor) (input before after old new : List ℕ) (r : Stepped) : Type 0 where
  pub end : ℕ
  pub ends : EndsAt input c.at end
  pub carried : Carried
  pub carries : Carries c.workspace c.number (order_of (take (end - c.at) (drop c.at input))) before after old new carried
  pub length_is : r.length ≡ carried.length
  pub cursor : r.cursor ≡ cursor_at c.keep carried.workspace (next_place c.keep (refuses carries.answer) end (length input)) (c.number + 1)

abbrev pub StepsBy : Left → Cursor → List ℕ → List ℕ → List ℕ → List ℕ → List ℕ → Stepped → Type 0
StepsBy left.Nothing c input before after old new r = (r ≡ record { cursor = c; length = 0 }) × (after ≡ before) × (new ≡ old)
StepsBy left.TooLong c input before after old new r = TooLong c input old new r × (after ≡ before)
StepsBy left.Order c input before after old new r = OrderAt c input before after old new r

pub record Steps (c : Cursor) (input before after old new : List ℕ) (r : Stepped) : Type 0 where
  pub step : StepsBy (left_of input c.at c.number) c input before after old new r
  -- the lent buffers have the lengths of their types
  pub proof_size : length before ≡ buffer_bytes
  pub text_size : length new ≡ answer_room

pub data Run (b : Cursor) (input : List ℕ) : List ℕ → Cursor → Type 0 where
  begun : Run b input [] b
  stepped : {output : List ℕ} {c : Cursor} (before after old new : List ℕ) (r : Stepped) → Run b input output c
      → Steps c input before after old new r → Run b input (output ++ take r.length new) r.cursor

pub record Transcript : Type 0 where
  pub prints : (input output : List ℕ) (c : Cursor) → Run (beginning input) input output c → left_of input c.at c.number ≡ left.Nothing → Printed input output c.workspace
  -- a step that has a text moves on, so no run goes on for ever
  pub on : (c : Cursor) (input before after old new : List ℕ) (r : Stepped) → Steps c input before after old new r → (r.length ≡ 0 → ⊥)
      → (c.at < length input) × (c.at < r.cursor.at)
  -- names aside, one list of answers, and one workspace at the end
  pub one : (input output other : List ℕ) (w v : Workspace) (P : Printed input output w) (Q : Printed input other v) → (map forget P.answers ≡ map forget Q.answers) × (w ≡ v)
