-- The book's answer to an order and to a list of orders, cited names aside, and the claims about every list of orders.
--   forget           an answer without its names
--   spoken           the book's reply to a call, as an answer
--   Stance           how two nodes stand in the closure of the book's equations, by what is said of the same, below, above and apart
--   BookAnswers      the book's answer to an order and its two lists afterwards; an order that can't be read, and a query, leave them
--   BookAnswersAll   the same for a list of orders, counted from i, in one of the two ways
--   Session          what carrying out a list of orders may give: each order's contract and nothing else
--   FollowsBook      the answers are the book's, and the workspace has its two lists, with zero in unused places
--   Orders           the claim: so it is for every script
--   TwoWays          the claim about the two ways: to the end, or to the first refusal (document 02 (a))
use Rattle.std.specs.Prelude.{◌≡◌, Bool, true, false, List, [], ◌∷◌, ◌++◌, map, ℕ, ◌+◌, length}
use Rattle.std.proofs.Math.Option.{Option, none, some}
use Rattle.graph.specs.Limits.{buffer_bytes}
use Rattle.graph.specs.State.{State, empty_state, variable, functor, equation_of}
use Rattle.graph.specs.Closure.{Same, Below}
use Rattle.graph.specs.Book as book
use Rattle.unifier.specs.Views.{Valid, packed, fresh_workspace}
use Rattle.unifier.specs.Compare.{refusal_of}
use Rattle.unifier.specs.declared.Workspace.{Workspace}
use Rattle.eqtrace_orders.specs.Grammar.{Order, order_of}
use Rattle.eqtrace_orders.specs.Grammar as order
use Rattle.eqtrace_answers.specs.Text.{Output, node, held, gone, same, below, above, apart, refused, unreadable}
use Rattle.eqtrace_script.specs.Script.{left_after, is_keep, Script, to_refusal, some_refuses}
use Rattle.eqtrace_carry.specs.Carried.{Does}

abbrev pub forget : Output → Output
forget (node i) = node i
forget (held n) = held n
forget (gone n) = gone n
forget (same ns) = same []
forget (below ns) = below []
forget (above ns) = above []
forget apart = apart
forget (refused k ns) = refused k []
forget (unreadable i) = unreadable i

-- no order clears
abbrev pub spoken : ℕ → book.BookReply → Output
spoken x (book.number i) = node i
spoken x book.held = held x
spoken x book.gone = gone x
spoken x book.cleared = apart
spoken x (book.refused k) = refused k []

pub record Calls (s : State) (c : book.Call) (x : ℕ) (a : Output) (d : State) : Type 0 where
  pub number : ℕ
  pub refusal : book.Refusal s c number
  pub answer : a ≡ spoken x (book.answer s c number).reply
  pub state : d ≡ (book.answer s c number).state

pub data Stance {A : Type 0} (s : State) (u v : ℕ) (x y z t : A) : A → Type 0 where
  is_same : Same s u v → Stance s u v x y z t x
  lies_below : (Same s u v → ⊥) → Below s u v → Stance s u v x y z t y
  lies_above : (Same s u v → ⊥) → (Below s u v → ⊥) → Below s v u → Stance s u v x y z t z
  is_apart : (Same s u v → ⊥) → (Below s u v → ⊥) → (Below s v u → ⊥) → Stance s u v x y z t t

abbrev pub QueryReplies : Option ℕ → State → ℕ → ℕ → Output → Type 0
QueryReplies none s u v a = Stance s u v (same []) (below []) (above []) apart a
QueryReplies (some k) s u v a = a ≡ refused k []

abbrev pub BookAnswers : State → ℕ → Option Order → Output → State → Type 0
BookAnswers s i none a d = (a ≡ unreadable i) × (d ≡ s)
BookAnswers s i (some order.variable) a d = Calls s (book.declare variable) 0 a d
BookAnswers s i (some (order.functor f cs)) a d = Calls s (book.declare (functor f cs)) 0 a d
BookAnswers s i (some (order.equate n u v)) a d = Calls s (book.equate (equation_of n u v) buffer_bytes) n a d
BookAnswers s i (some (order.withdraw n)) a d = Calls s (book.withdraw n) n a d
BookAnswers s i (some (order.query u v)) a d = QueryReplies (refusal_of s u v buffer_bytes) s u v a × (d ≡ s)

pub data BookAnswersAll (keep : Bool) : State → ℕ → List (List ℕ) → List Output → State → Type 0 where
  over : {s : State} {i : ℕ} → BookAnswersAll keep s i [] [] s
  next : {s d e : State} {i : ℕ} {line : List ℕ} {lines : List (List ℕ)} {a : Output} {answers : List Output}
      → BookAnswers s i (order_of line) a d → BookAnswersAll keep d (i + 1) (left_after keep a lines) answers e → BookAnswersAll keep s i (line ∷ lines) (a ∷ answers) e

pub data Session (keep : Bool) : Workspace → ℕ → List (List ℕ) → List Output → Workspace → Type 0 where
  over : {w : Workspace} {i : ℕ} → Session keep w i [] [] w
  next : {w v u : Workspace} {i : ℕ} {line : List ℕ} {lines : List (List ℕ)} {a : Output} {answers : List Output} (before after : List ℕ) → length before ≡ buffer_bytes
      → Does w i (order_of line) before after a v → Session keep v (i + 1) (left_after keep a lines) answers u → Session keep w i (line ∷ lines) (a ∷ answers) u

pub record FollowsBook (script : Script) (answers : List Output) (w : Workspace) : Type 0 where
  pub state : State
  pub told : BookAnswersAll script.keep empty_state script.first script.orders (map forget answers) state
  pub workspace : w ≡ packed state
  pub valid : Valid w

abbrev pub Orders : Type 0
Orders = (script : Script) (answers : List Output) (w : Workspace) → Session script.keep fresh_workspace script.first script.orders answers w → FollowsBook script answers w

pub record TwoWays : Type 0 where
  -- stopping says what keeping going says, up to the first refusal
  pub cut : {s d e : State} {i : ℕ} {lines : List (List ℕ)} {xs ys : List Output} → BookAnswersAll false s i lines xs d → BookAnswersAll true s i lines ys e → xs ≡ to_refusal ys
  -- once it has stopped, no line after those counts, whatever it says
  pub rest : {s d : State} {i : ℕ} {lines : List (List ℕ)} {xs : List Output} (more : List (List ℕ)) → BookAnswersAll false s i lines xs d → some_refuses xs ≡ true
      → BookAnswersAll false s i (lines ++ more) xs d
  -- `K` in any other place can't be read
  pub elsewhere : (line : List ℕ) → is_keep line ≡ true → order_of line ≡ none
