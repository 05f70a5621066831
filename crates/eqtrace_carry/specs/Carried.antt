-- One order carried out: which call it is, what the call gave back, and what is said of it.
--   plainly    the answer to a reply that cites nothing
--   Citing     an answer with the names that the written proof's last line rests on, rising, each once
--   Spoken     what is said of an offered equation's reply: clash and cycle cite
--   Stated     what is said of a comparison: same, below and above cite
--   Does       the order's call by its own contract, and the answer; an order that can't be read changes nothing
--   Carries    the same with the answer's text in the lent buffer, and whether it refuses
use Rattle.std.specs.Prelude.{◌≡◌, List, [], ℕ, Result, Ok, Err}
use Rattle.std.proofs.Math.Option.{Option, none, some}
use Rattle.graph.specs.State.{variable, functor, Equation, equation_of}
use Rattle.graph.specs.Lines.{Line}
use Rattle.graph.specs.Book as book
use Rattle.proof_lines.specs.Codec.{first_lines}
use Rattle.proof_cited.specs.Cited.{CitedRising}
use Rattle.unifier.specs.Answers.{Answers}
use Rattle.unifier.specs.Equate.{Equates}
use Rattle.unifier.specs.Compare.{Compares}
use Rattle.unifier.specs.declared.Workspace.{Workspace}
use Rattle.unifier.specs.declared.Outcome.{Outcome}
use Rattle.unifier.specs.Replies.{node_number, is_gone}
use Rattle.refusals.specs.Numbers.{refusal_number, Brought, nothing, proof, place, brings}
use Rattle.refusals.specs.declared.Refusal.{Refusal}
use Rattle.unifier_respond.specs.declared.Standing.{Standing}
use Rattle.unifier_respond.specs.declared.Standing.TheVariants as stands
use Rattle.eqtrace_orders.specs.Grammar.{Order}
use Rattle.eqtrace_orders.specs.Grammar as order
use Rattle.eqtrace_answers.specs.Text.{Output, node, held, gone, same, below, above, apart, refused, unreadable}
use Rattle.eqtrace_script.specs.Script.{refuses}
use Rattle.eqtrace_answers.specs.Puts.{Says}
use Rattle.eqtrace_carry.specs.declared.Carried.{Carried}

-- `says` is what is said of an answer
abbrev pub plainly : {A : Type 0} → (A → Output) → Result A Refusal → Output
plainly says (Ok a) = says a
plainly says (Err r) = refused (refusal_number r) []

pub record Citing (ls : List Line) (says : List ℕ → Output) (a : Output) : Type 0 where
  pub names : List ℕ
  pub cited : CitedRising ls names
  pub answer : a ≡ says names

-- of refusal k; bytes are the proof buffer as the call left it
abbrev pub SpokenBeside : List ℕ → ℕ → Brought → Output → Type 0
SpokenBeside bytes k nothing a = a ≡ refused k []
SpokenBeside bytes k (proof n) a = Citing (first_lines n bytes) (refused k) a
SpokenBeside bytes k (place i) a = a ≡ refused k []

-- x is the name that the order has
abbrev pub Spoken : ℕ → List ℕ → Result (Unit {0}) Refusal → Output → Type 0
Spoken x bytes (Ok u) a = a ≡ held x
Spoken x bytes (Err r) a = SpokenBeside bytes (refusal_number r) (brings r) a

abbrev pub Stated : List ℕ → Result Standing Refusal → Output → Type 0
Stated bytes (Ok (stands.Same n)) a = Citing (first_lines n bytes) same a
Stated bytes (Ok (stands.Below n)) a = Citing (first_lines n bytes) below a
Stated bytes (Ok (stands.Above n)) a = Citing (first_lines n bytes) above a
Stated bytes (Ok stands.Apart) a = a ≡ apart
Stated bytes (Err r) a = a ≡ refused (refusal_number r) []

-- declare and withdraw don't take the proof buffer; `tells` is what an answer says to the book
pub record Called {A : Type 0} (tells : A → book.BookReply) (says : A → Output) (w : Workspace) (c : book.Call) (before after : List ℕ) (a : Output) (v : Workspace) : Type 0 where
  pub outcome : Outcome A
  pub answers : Answers tells w c outcome
  pub said : a ≡ plainly says outcome.reply
  pub workspace : v ≡ outcome.workspace
  pub kept : after ≡ before

pub record Offered (w : Workspace) (e : Equation) (before after : List ℕ) (a : Output) (v : Workspace) : Type 0 where
  pub outcome : Outcome (Unit {0})
  pub equates : Equates w e before after outcome
  pub said : Spoken e.name after outcome.reply a
  pub workspace : v ≡ outcome.workspace

pub record Queried (w : Workspace) (x y : ℕ) (before after : List ℕ) (a : Output) (v : Workspace) : Type 0 where
  pub compared : Outcome Standing
  pub compares : Compares w x y before after compared
  pub said : Stated after compared.reply a
  pub workspace : v ≡ compared.workspace

pub record PassedOver (w : Workspace) (i : ℕ) (before after : List ℕ) (a : Output) (v : Workspace) : Type 0 where
  pub said : a ≡ unreadable i
  pub workspace : v ≡ w
  pub kept : after ≡ before

-- the workspace and the proof buffer before and after, and the answer; i is the order's number
abbrev pub Does : Workspace → ℕ → Option Order → List ℕ → List ℕ → Output → Workspace → Type 0
Does w i none before after a v = PassedOver w i before after a v
Does w i (some order.variable) before after a v = Called node_number node w (book.declare variable) before after a v
Does w i (some (order.functor f cs)) before after a v = Called node_number node w (book.declare (functor f cs)) before after a v
Does w i (some (order.equate n x y)) before after a v = Offered w (equation_of n x y) before after a v
Does w i (some (order.withdraw n)) before after a v = Called is_gone (λ (u : Unit {0}). gone n) w (book.withdraw n) before after a v
Does w i (some (order.query x y)) before after a v = Queried w x y before after a v

-- `old` and `new` are the buffer of the answer's text
pub record Carries (w : Workspace) (i : ℕ) (o : Option Order) (before after old new : List ℕ) (r : Carried) : Type 0 where
  pub answer : Output
  pub does : Does w i o before after answer r.workspace
  pub says : Says answer old new r.length
  pub refused_is : r.refused ≡ refuses answer
