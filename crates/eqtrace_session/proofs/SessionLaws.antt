-- A list of orders is answered as the book answers it.
use mathlib.Core.Path.{◌≡◌, refl, sym, ap, ◌∙◌, subst}
use mathlib.Core.Bool.{Bool, true, false, ◌&&◌, cond}
use mathlib.Core.List.{List, [], ◌∷◌, map}
use mathlib.Core.Option.{Option, none, some}
use Prim.Native.Nat.{ℕ, ◌+◌}
use lib.Dec.{ltb}
use lib.ListN.{length}
use Rattle.graph.specs.State.{State, empty_state, equation_of, variable, functor}
use Rattle.graph.specs.Limits.{buffer_bytes}
use Rattle.graph.specs.Book as book
use Rattle.unifier.specs.Views.{Valid, state_of, packed}
use Rattle.unifier.specs.Replies.{said, node_number, is_held, is_gone}
use Rattle.unifier.specs.Answers.{Answers}
use Rattle.unifier.specs.Compare as compare
use Rattle.unifier.specs.declared.Workspace.{Workspace}
use Rattle.unifier.specs.declared.Outcome.{Outcome}
use Rattle.std.specs.Prelude.{Result, Ok, Err}
use Rattle.refusals.specs.Numbers.{refusal_number, Brought, nothing, proof, place, brings, numbered}
use Rattle.refusals.specs.declared.Refusal.{Refusal}
use Rattle.unifier_respond.specs.declared.Standing.{Standing}
use Rattle.unifier_respond.specs.declared.Standing.TheVariants as stands
use Rattle.unifier.proofs.PackedLaws.{repacked, packed_lists, fresh_valid, fresh_state}
use Rattle.eqtrace_orders.specs.Grammar.{Order, order_of}
use Rattle.eqtrace_orders.specs.Grammar as order
use Rattle.eqtrace_answers.specs.Text.{Output, node, held, gone, same, below, above, apart, refused, unreadable}
use Rattle.eqtrace_script.specs.Script.{refuses, left_after}
use Rattle.eqtrace_carry.specs.Carried.{plainly, SpokenBeside, Spoken, Stated, Does}
use Rattle.eqtrace_session.specs.Program.{forget, spoken, Calls, QueryReplies, BookAnswers, BookAnswersAll, Session, Orders}
use Rattle.eqtrace_session.specs.Program as told

-- ---- one order

-- what is said of an answer is what the book says
plainly_said : {A : Type 0} (tells : A → book.BookReply) (says : A → Output) (x : ℕ) → ((a : A) → forget (says a) ≡ spoken x (tells a)) → (r : Result A Refusal)
    → forget (plainly says r) ≡ spoken x (said tells r)
plainly_said tells says x f (Ok a) = f a
plainly_said tells says x f (Err k) = refl

spoken_said : (x : ℕ) (bytes : List ℕ) (r : Result (Unit {0}) Refusal) (a : Output) → Spoken x bytes r a → forget a ≡ spoken x (said is_held r)
spoken_said x bytes (Ok u) a h = ap forget h
spoken_said x bytes (Err k) a h = go (brings k) h
  where
    go : (b : Brought) → SpokenBeside bytes (refusal_number k) b a → forget a ≡ refused (refusal_number k) []
    go nothing h = ap forget h
    go (proof n) h = ap forget h.answer
    go (place n) h = ap forget h

stated_stance : (w : State) (u v : ℕ) (before after : List ℕ) (r : Result Standing Refusal) (a : Output) → compare.StandsAs w u v before after r → Stated after r a → QueryReplies none w u v (forget a)
stated_stance w u v before after (Ok (stands.Same n)) a (compare.same p q) h = rw h.answer (told.is_same p)
stated_stance w u v before after (Ok (stands.Below n)) a (compare.below m p q) h = rw h.answer (told.lies_below m p)
stated_stance w u v before after (Ok (stands.Above n)) a (compare.above m k p q) h = rw h.answer (told.lies_above m k p)
stated_stance w u v before after (Ok stands.Apart) a (compare.apart m k j q) h = rw h (told.is_apart m k j)
stated_stance w u v before after (Err k) a s h = absurd s

-- a refused query's number is that of its refusal
abbrev Numbered : Option ℕ → Type 0
Numbered none = Unit {0}
Numbered (some k) = refusal_number (numbered k) ≡ k

refusal_numbered : (w : State) (u v room : ℕ) → Numbered (compare.refusal_of w u v room)
refusal_numbered w u v room = go (ltb room buffer_bytes) (ltb u (length w.nodes) && ltb v (length w.nodes))
  where
    go : (b c : Bool) → Numbered (cond b (some 5) (cond c none (some 4)))
    go true c = refl
    go false true = tt
    go false false = refl

stated_compares : (o : Option ℕ) (w : State) (u v : ℕ) (before after : List ℕ) (r : Result Standing Refusal) (a : Output) → Numbered o → compare.Replies o w u v before after r → Stated after r a
    → QueryReplies o w u v (forget a)
stated_compares none w u v before after r a n c h = stated_stance w u v before after r a c h
stated_compares (some k) w u v before after r a n c h =
    let q : Stated after (Err (numbered k)) a = rw c.0 at h in
    ap forget q ∙ ap (λ (x : ℕ). refused x []) n

-- the book's answer to an order, from the state that the workspace holds
pub record Step (s : State) (i : ℕ) (o : Option Order) (a : Output) (v : Workspace) : Type 0 where
  pub state : State
  pub tells : BookAnswers s i o (forget a) state
  pub workspace : v ≡ packed state
  pub valid : Valid v

module _ (w : Workspace) (ok : Valid w) (i : ℕ) where
  -- a call that gives an `Outcome`
  module _ {A : Type 0} (tells : A → book.BookReply) (c : book.Call) (x : ℕ) (a : Output) (v : Workspace) (o : Outcome A) (P : Answers tells w c o)
      (h : forget a ≡ spoken x (said tells o.reply)) (q : v ≡ o.workspace) where
    abbrev after : State
    after = (book.answer (state_of w) c (P.follows ok).number).state

    calls : Calls (state_of w) c x (forget a) after
    calls = let f = P.follows ok in record { number = f.number; refusal = f.refusal; answer = h ∙ ap (spoken x) f.reply; state = refl }

    by_call : (t : Option Order) → (Calls (state_of w) c x (forget a) after → BookAnswers (state_of w) i t (forget a) after) → Step (state_of w) i t a v
    by_call t k = let f = P.follows ok in record { state = after; tells = k calls; workspace = q ∙ f.workspace; valid = subst Valid (sym q) f.valid }

  -- an order that changes nothing
  unchanged : (t : Option Order) (a : Output) (v : Workspace) → v ≡ w → BookAnswers (state_of w) i t (forget a) (state_of w) → Step (state_of w) i t a v
  unchanged t a v q k = record { state = state_of w; tells = k; workspace = q ∙ repacked w ok.shape; valid = subst Valid (sym q) ok }

  pub step : (t : Option Order) (before after : List ℕ) (a : Output) (v : Workspace) → length before ≡ buffer_bytes → Does w i t before after a v → Step (state_of w) i t a v
  step none before later a v n d = unchanged none a v d.workspace (ap forget d.said, refl)
  step (some order.variable) before later a v n d =
      by_call node_number (book.declare variable) 0 a v d.outcome d.answers (ap forget d.said ∙ plainly_said node_number node 0 (λ u. refl) d.outcome.reply) d.workspace (some order.variable) (λ k. k)
  step (some (order.functor f cs)) before later a v n d =
      by_call node_number (book.declare (functor f cs)) 0 a v d.outcome d.answers (ap forget d.said ∙ plainly_said node_number node 0 (λ u. refl) d.outcome.reply) d.workspace (some (order.functor f cs)) (λ k. k)
  step (some (order.equate m x y)) before later a v n d =
      let e : Answers is_held w (book.equate (equation_of m x y) buffer_bytes) d.outcome = subst (λ (k : ℕ). Answers is_held w (book.equate (equation_of m x y) k) d.outcome) n d.equates.answers in
      by_call is_held (book.equate (equation_of m x y) buffer_bytes) m a v d.outcome e (spoken_said m later d.outcome.reply a d.said) d.workspace (some (order.equate m x y)) (λ k. k)
  step (some (order.withdraw m)) before later a v n d =
      by_call is_gone (book.withdraw m) m a v d.outcome d.answers (ap forget d.said ∙ plainly_said is_gone (λ (u : Unit {0}). gone m) m (λ u. refl) d.outcome.reply) d.workspace (some (order.withdraw m)) (λ k. k)
  step (some (order.query x y)) before later a v n d =
      let r : compare.Replies (compare.refusal_of (state_of w) x y buffer_bytes) (state_of w) x y before later d.compared.reply =
      subst (λ (k : ℕ). compare.Replies (compare.refusal_of (state_of w) x y k) (state_of w) x y before later d.compared.reply) n (d.compares.replies ok) in
      unchanged (some (order.query x y)) a v (d.workspace ∙ d.compares.workspace)
      (stated_compares (compare.refusal_of (state_of w) x y buffer_bytes) (state_of w) x y before later d.compared.reply a (refusal_numbered (state_of w) x y buffer_bytes) r d.said, refl)

-- ---- a list of orders

-- a refusal is one without its names
refuses_forget : (a : Output) → refuses (forget a) ≡ refuses a
refuses_forget (node i) = refl
refuses_forget (held n) = refl
refuses_forget (gone n) = refl
refuses_forget (same ns) = refl
refuses_forget (below ns) = refl
refuses_forget (above ns) = refl
refuses_forget apart = refl
refuses_forget (refused k ns) = refl
refuses_forget (unreadable i) = refl

module _ (keep : Bool) where
  record All (s : State) (i : ℕ) (lines : List (List ℕ)) (answers : List Output) (v : Workspace) : Type 0 where
    pub state : State
    pub told : BookAnswersAll keep s i lines (map forget answers) state
    pub workspace : v ≡ packed state
    pub valid : Valid v

  all_more : (w v u : Workspace) (i : ℕ) (line : List ℕ) (lines : List (List ℕ)) (a : Output) (answers : List Output) (before after : List ℕ) → Valid w → length before ≡ buffer_bytes
      → Does w i (order_of line) before after a v → (Valid v → All (state_of v) (i + 1) (left_after keep a lines) answers u) → All (state_of w) i (line ∷ lines) (a ∷ answers) u
  all_more w v u i line lines a answers before after ok n d more =
      let t : Step (state_of w) i (order_of line) a v = step w ok i (order_of line) before after a v n d in
      let l : left_after keep a lines ≡ left_after keep (forget a) lines = rw (refuses_forget a) in
      let m : All t.state (i + 1) (left_after keep a lines) answers u = subst (λ (s : State). All s (i + 1) (left_after keep a lines) answers u) (packed_lists t.state v t.workspace t.valid) (more t.valid) in
      let r : All t.state (i + 1) (left_after keep (forget a) lines) answers u = subst (λ (ls : List (List ℕ)). All t.state (i + 1) ls answers u) l m in
      record { state = r.state; told = told.next t.tells r.told; workspace = r.workspace; valid = r.valid }

  all : {w v : Workspace} {i : ℕ} {lines : List (List ℕ)} {answers : List Output} → Valid w → Session keep w i lines answers v → All (state_of w) i lines answers v
  all ok (told.over {w}) = record { state = state_of w; told = told.over; workspace = repacked w ok.shape; valid = ok }
  all ok (told.next {w} {v} {u} {i} {line} {lines} {a} {answers} before after n d more) = all_more w v u i line lines a answers before after ok n d (λ valid. all valid more)

-- for every script, and so for that of every input
pub faithful : Orders
faithful script answers w run =
    let r : All script.keep empty_state script.first script.orders answers w = subst (λ (s : State). All script.keep s script.first script.orders answers w) fresh_state (all script.keep fresh_valid run) in
    record { state = r.state; told = r.told; workspace = r.workspace; valid = r.valid }
