-- The book's answers to a list of orders and to an input are unique, and so are its two lists after them; the two ways to answer a list.
use mathlib.Core.Path.{◌≡◌, refl, sym, ap, ap₂, ◌∙◌}
use mathlib.Core.Bool.{Bool, true, false, ◌||◌, not, cond}
use mathlib.Core.List.{List, [], ◌∷◌, ◌++◌}
use mathlib.Core.Option.{Option, none, some}
use Prim.Native.Nat.{ℕ, ◌+◌}
use Rattle.graph.specs.Limits.{buffer_bytes}
use Rattle.graph.specs.State.{State, variable, functor, equation_of}
use Rattle.graph.specs.Book as book
use Rattle.graph.proofs.BookLaws.{answer_unique}
use Rattle.unifier.specs.Compare.{refusal_of}
use Rattle.eqtrace_orders.specs.Grammar.{Order, order_of}
use Rattle.eqtrace_orders.specs.Grammar as order
use Rattle.eqtrace_answers.specs.Text.{Output}
use Rattle.eqtrace_script.specs.Script.{refuses, left_after, to_refusal, some_refuses}
use Rattle.eqtrace_script.proofs.ScriptLaws.{keep_unreadable}
use Rattle.eqtrace_session.specs.Program.{spoken, Calls, Stance, is_same, lies_below, lies_above, is_apart, QueryReplies, BookAnswers, BookAnswersAll, over, next, TwoWays}
use Rattle.eqtrace_session.specs.Transcript.{too_long, ToldBy, Told}

pub stance_unique : {A : Type 0} {s : State} {u v : ℕ} {x y z t a b : A} → Stance s u v x y z t a → Stance s u v x y z t b → a ≡ b
stance_unique (is_same p) (is_same q) = refl
stance_unique (is_same p) (lies_below n q) = absurd (n p)
stance_unique (is_same p) (lies_above n m q) = absurd (n p)
stance_unique (is_same p) (is_apart n m k) = absurd (n p)
stance_unique (lies_below l p) (is_same q) = absurd (l q)
stance_unique (lies_below l p) (lies_below n q) = refl
stance_unique (lies_below l p) (lies_above n m q) = absurd (m p)
stance_unique (lies_below l p) (is_apart n m k) = absurd (m p)
stance_unique (lies_above l j p) (is_same q) = absurd (l q)
stance_unique (lies_above l j p) (lies_below n q) = absurd (j q)
stance_unique (lies_above l j p) (lies_above n m q) = refl
stance_unique (lies_above l j p) (is_apart n m k) = absurd (k p)
stance_unique (is_apart l j i) (is_same q) = absurd (l q)
stance_unique (is_apart l j i) (lies_below n q) = absurd (j q)
stance_unique (is_apart l j i) (lies_above n m q) = absurd (i q)
stance_unique (is_apart l j i) (is_apart n m k) = refl

compares_unique : (o : Option ℕ) (s : State) (u v : ℕ) (a b : Output) → QueryReplies o s u v a → QueryReplies o s u v b → a ≡ b
compares_unique none s u v a b p q = stance_unique p q
compares_unique (some k) s u v a b p q = p ∙ sym q

calls_unique : (s : State) (c : book.Call) (x : ℕ) (a b : Output) (d e : State) → Calls s c x a d → Calls s c x b e → (a ≡ b) × (d ≡ e)
calls_unique s c x a b d e p q =
    let r : book.answer s c p.number ≡ book.answer s c q.number = answer_unique s c p.number q.number p.refusal q.refusal in
    (p.answer ∙ ap (λ (z : book.Transition). spoken x z.reply) r ∙ sym q.answer, p.state ∙ ap (λ (z : book.Transition). z.state) r ∙ sym q.state)

pub tells_unique : (s : State) (i : ℕ) (o : Option Order) (a b : Output) (d e : State) → BookAnswers s i o a d → BookAnswers s i o b e → (a ≡ b) × (d ≡ e)
tells_unique s i none a b d e p q = (p.0 ∙ sym q.0, p.1 ∙ sym q.1)
tells_unique s i (some order.variable) a b d e p q = calls_unique s (book.declare variable) 0 a b d e p q
tells_unique s i (some (order.functor f cs)) a b d e p q = calls_unique s (book.declare (functor f cs)) 0 a b d e p q
tells_unique s i (some (order.equate n u v)) a b d e p q = calls_unique s (book.equate (equation_of n u v) buffer_bytes) n a b d e p q
tells_unique s i (some (order.withdraw n)) a b d e p q = calls_unique s (book.withdraw n) n a b d e p q
tells_unique s i (some (order.query u v)) a b d e p q = (compares_unique (refusal_of s u v buffer_bytes) s u v a b p.0 q.0, p.1 ∙ sym q.1)

-- a list of orders has one list of answers, and leads to one state
pub tells_all_unique : {keep : Bool} {s d e : State} {i : ℕ} {lines : List (List ℕ)} {xs ys : List Output} → BookAnswersAll keep s i lines xs d → BookAnswersAll keep s i lines ys e
    → (xs ≡ ys) × (d ≡ e)
tells_all_unique over over = (refl, refl)
tells_all_unique {keep} (next {s} {d} {i = i} {line = line} {lines = lines} {a = a} {answers = xs} h r) (next {d = f} {e = e} {a = b} {answers = ys} k t) =
    let z = tells_unique s i (order_of line) a b d f h k in
    let q : BookAnswersAll keep d (i + 1) (left_after keep a lines) ys e = rw (z.0, z.1) t in
    let y = tells_all_unique r q in
    (ap₂ (λ (x : Output) (l : List Output). x ∷ l) z.0 y.0, y.1)

-- an input has one list of answers, cited names aside, and leads to one state
pub told_unique : (input : List ℕ) (xs ys : List Output) (d e : State) → Told input xs d → Told input ys e → (xs ≡ ys) × (d ≡ e)
told_unique input xs ys d e = go (too_long input)
  where
    go : (b : Bool) → ToldBy b input xs d → ToldBy b input ys e → (xs ≡ ys) × (d ≡ e)
    go true p q = (p.0 ∙ sym q.0, p.1 ∙ sym q.1)
    go false p q = tells_all_unique p q

-- ---- the two ways

none_told : {keep : Bool} {s d : State} {i : ℕ} {lines : List (List ℕ)} {xs : List Output} → lines ≡ [] → BookAnswersAll keep s i lines xs d → xs ≡ []
none_told e over = refl
none_told e (next h r) = cc

cut : {s d e : State} {i : ℕ} {lines : List (List ℕ)} {xs ys : List Output} → BookAnswersAll true s i lines ys e → BookAnswersAll false s i lines xs d → xs ≡ to_refusal ys
cut over over = refl
cut (next {s} {d = f} {e = e} {i = i} {line = line} {lines = lines} {a = b} {answers = ys} k t) (next {d = d} {e = v} {a = a} {answers = xs} h r) =
    let z = tells_unique s i (order_of line) a b d f h k in
    let q : BookAnswersAll false f (i + 1) (left_after false b lines) xs v = rw (← z.0, ← z.1) r in
    ap₂ (λ (x : Output) (l : List Output). x ∷ l) z.0 (go (refuses b) q (λ l. cut t l))
  where
    go : (b : Bool) → BookAnswersAll false f (i + 1) (cond (not b) lines []) xs v → (BookAnswersAll false f (i + 1) lines xs v → xs ≡ to_refusal ys) → xs ≡ cond b [] (to_refusal ys)
    go true l k = none_told refl l
    go false l k = k l

rest : {s d : State} {i : ℕ} {lines : List (List ℕ)} {xs : List Output} (more : List (List ℕ)) → BookAnswersAll false s i lines xs d → some_refuses xs ≡ true
    → BookAnswersAll false s i (lines ++ more) xs d
rest more over e = cc
rest more (next {d = d} {e = v} {i = i} {lines = lines} {a = a} {answers = xs} h r) e = next h (go (refuses a) r (λ q. rest more r q) e)
  where
    go : (b : Bool) → BookAnswersAll false d (i + 1) (cond (not b) lines []) xs v → (some_refuses xs ≡ true → BookAnswersAll false d (i + 1) (cond (not b) lines [] ++ more) xs v)
        → b || some_refuses xs ≡ true → BookAnswersAll false d (i + 1) (cond (not b) (lines ++ more) []) xs v
    go true r k q = r
    go false r k q = k q

pub two_ways : TwoWays
two_ways = record { cut = λ p q. cut q p; rest = rest; elsewhere = keep_unreadable }
