-- What declare and withdraw promise, and the first part of what equate promises: on a value that is no workspace refusal 1 and
-- nothing changed; on a workspace, the book's answer to the call. `says` is what an answer says to the book.
--   Follows   the reply and the workspace are the book's; `number` is that of the refusal, 0 for none, and `refusal` leaves just one
--   Answers   both parts
use Rattle.std.specs.Prelude.{◌≡◌, ℕ, Err}
use Rattle.graph.specs.Book as book
use Rattle.refusals.specs.declared.Refusal.TheVariants.{NotAWorkspace}
use Rattle.unifier.specs.Views.{state_of, packed, Valid}
use Rattle.unifier.specs.Replies.{said, outcome}
use Rattle.unifier.specs.declared.Workspace.{Workspace}
use Rattle.unifier.specs.declared.Outcome.{Outcome}

pub record Follows {A : Type 0} (says : A → book.BookReply) (w : Workspace) (c : book.Call) (r : Outcome A) : Type 0 where
  pub number : ℕ
  pub refusal : book.Refusal (state_of w) c number
  pub reply : said says r.reply ≡ (book.answer (state_of w) c number).reply
  -- so on a refusal it is w, which is packed (state_of w)
  pub workspace : r.workspace ≡ packed (book.answer (state_of w) c number).state
  pub valid : Valid r.workspace

pub record Answers {A : Type 0} (says : A → book.BookReply) (w : Workspace) (c : book.Call) (r : Outcome A) : Type 0 where
  pub refuses : (Valid w → ⊥) → r ≡ outcome (Err NotAWorkspace) w
  pub follows : Valid w → Follows says w c r
