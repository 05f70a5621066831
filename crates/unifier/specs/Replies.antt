-- The replies as the book and the checker give them.
--   said          a reply as the book gives it, line counts aside: what an answer says, or the refusal's number; 8 is a clash, 9 a cycle
--   node_number, is_held, is_gone   what the answers of declare, equate and withdraw say
--   outcome       a reply beside a workspace
use Rattle.std.specs.Prelude.{ℕ, Result, Ok, Err}
use Rattle.graph.specs.Book as book
use Rattle.refusals.specs.Numbers.{refusal_number}
use Rattle.refusals.specs.declared.Refusal.{Refusal}
use Rattle.unifier.specs.declared.Workspace.{Workspace}
use Rattle.unifier.specs.declared.Outcome.{Outcome}

abbrev pub said : {A : Type 0} → (A → book.BookReply) → Result A Refusal → book.BookReply
said says (Ok a) = says a
said says (Err r) = book.refused (refusal_number r)

abbrev pub node_number : ℕ → book.BookReply
node_number u = book.number u

abbrev pub is_held : Unit {0} → book.BookReply
is_held u = book.held

abbrev pub is_gone : Unit {0} → book.BookReply
is_gone u = book.gone

abbrev pub outcome : {A : Type 0} → Result A Refusal → Workspace → Outcome A
outcome r w = record { reply = r; workspace = w }
