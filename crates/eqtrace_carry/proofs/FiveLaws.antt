-- Five children are enough: the book's answer to a functor node with more than four doesn't depend on those past the fifth.
use mathlib.Core.Path.{◌≡◌, refl, sym, ap, ◌∙◌, subst}
use mathlib.Core.Bool.{Bool, true, false, cond}
use mathlib.Core.List.{List}
use mathlib.Core.Option.{Option, some}
use Prim.Native.Nat.{ℕ, ◌<◌}
use native.Mathlib.Omega.{arith}
use lib.ListN.{length}
use lib.Seq.{length-take-le, take_all}
use lib.Dec.{ltb, leb}
use borrow.Author.Tests.{lt-ltb, ltb-true, ltb-false, ne_eqb}
use Rattle.graph.specs.State.{State, functor}
use Rattle.graph.specs.Book as book
use Rattle.unifier.specs.Views.{state_of, packed}
use Rattle.unifier.specs.Replies.{node_number}
use Rattle.unifier.specs.Answers.{Answers, Follows}
use Rattle.unifier.specs.declared.Workspace.{Workspace}
use Rattle.unifier.specs.declared.Outcome.{Outcome}
use Rattle.eqtrace_orders.specs.Parse.{first_five}

-- more than four children: refusal 2 or 3
many : (s : State) (f : ℕ) (cs : List ℕ) → 4 < length cs → book.early s (book.declare (functor f cs)) ≡ cond (leb 64 (length s.nodes)) (some 2) (some 3)
many s f cs h = rw (lt-ltb 4 (length cs) h)

refused_so : (b : Bool) (L : ℕ → Type 0) (k : ℕ) → book.Else (cond b (some 2) (some 3)) L k → k ≡ 0 → ⊥
refused_so true L k e z = omega (arith, e)
refused_so false L k e z = omega (arith, e)

other_late : (b : Bool) (L M : ℕ → Type 0) (k : ℕ) → book.Else (cond b (some 2) (some 3)) L k → book.Else (cond b (some 2) (some 3)) M k
other_late true L M k e = e
other_late false L M k e = e

-- a refused call leaves the lists, whatever the call
answers_agree : (s : State) (c d : book.Call) (k : ℕ) → (k ≡ 0 → ⊥) → book.answer s c k ≡ book.answer s d k
answers_agree s c d k n = rw (ne_eqb k 0 n)

module _ (w : Workspace) (f : ℕ) (cs : List ℕ) (o : Outcome ℕ) where
  more_follows : 5 < length cs → Follows node_number w (book.declare (functor f (first_five cs))) o → Follows node_number w (book.declare (functor f cs)) o
  more_follows h F =
      let s : State = state_of w in
      let k : ℕ = F.number in
      let c : book.Call = book.declare (functor f (first_five cs)) in
      let d : book.Call = book.declare (functor f cs) in
      let n : length (first_five cs) ≡ 5 = length-take-le 5 cs (omega arith) in
      let e : book.Else (cond (leb 64 (length s.nodes)) (some 2) (some 3)) (book.Late s c) k =
      subst (λ (x : Option ℕ). book.Else x (book.Late s c) k) (many s f (first_five cs) (omega arith)) F.refusal in
      let z : k ≡ 0 → ⊥ = refused_so (leb 64 (length s.nodes)) (book.Late s c) k e in
      let a : book.answer s c k ≡ book.answer s d k = answers_agree s c d k z in
      record {
        number = k;
        refusal = subst (λ (x : Option ℕ). book.Else x (book.Late s d) k) (sym (many s f cs (omega arith))) (other_late (leb 64 (length s.nodes)) (book.Late s c) (book.Late s d) k e);
        reply = F.reply ∙ ap (λ (x : book.Transition). x.reply) a;
        workspace = F.workspace ∙ ap (λ (x : book.Transition). packed x.state) a;
        valid = F.valid;
      }

  pub five_answers : Answers node_number w (book.declare (functor f (first_five cs))) o → Answers node_number w (book.declare (functor f cs)) o
  five_answers A = go (ltb 5 (length cs)) refl
    where
      go : (b : Bool) → ltb 5 (length cs) ≡ b → Answers node_number w (book.declare (functor f cs)) o
      go true e = record { refuses = A.refuses; follows = λ v. more_follows (ltb-true 5 (length cs) e) (A.follows v) }
      go false e = let q : first_five cs ≡ cs = take_all 5 cs (ltb-false 5 (length cs) e) in subst (λ (x : List ℕ). Answers node_number w (book.declare (functor f x)) o) q A
