-- The book's calls keep a solution.
--   solution_declared, solution_removed   a node more, an equation fewer
--   solution_answer_declare ..            after every answer; of an equation that is taken the verdict's side must say it
use mathlib.Core.Path.{◌≡◌, refl, sym, ap, ◌∙◌}
use mathlib.Core.Logic.{◌⊎◌, inl, inr, ⊎_elim}
use mathlib.Core.Bool.{true, cond}
use mathlib.Core.List.{List, [], ◌∷◌, ◌++◌}
use mathlib.Core.Option.{some}
use Prim.Native.Nat.{ℕ, zero, suc, ◌≤◌, ◌<◌}
use native.Mathlib.Omega.{arith}
use lib.ListN.{length, get_elem?, length-append}
use lib.Dec.{ltb}
use borrow.Author.Tests.{lt-ltb, le-ltb, ne_eqb}
use Rattle.graph.specs.State.{Node, functor, Equation, State, state_with, empty_state, NodeAt, ChildAt, Proper, offered}
use Rattle.graph.specs.Solution.{Classes, Solution}
use Rattle.graph.specs.Book.{declare, equate, withdraw, clear, removed, all_below, children_of, Refusal, answer}
use Rattle.base.specs.Sum.{sum_to}
use Rattle.std.proofs.lemmas.Bool.{cases_lt}
use Rattle.base.proofs.ListLaws.{found_lt, found_snoc}
use Rattle.base.proofs.SumLaws.{sum_at}
use Rattle.graph.proofs.SolutionLaws.{solution_fewer}
use Rattle.graph.proofs.HeldLaws.{removed_fewer}
use Rattle.graph.proofs.AcceptLaws.{declare_accepted}
use Rattle.graph.proofs.ProperLaws.{below_at}

pub solution_empty : Solution empty_state
solution_empty = record {
  classes = record {
    class = λ u. 0;
    equated = λ e h. refl;
    label = λ u v f g cs ds m. cc;
    place = λ u v f g i x y cs ds m. cc;
  };
  height = λ u. 0;
  level = λ u v p q e. refl;
  lower = λ u f i v cs m. cc;
}

pub solution_removed : (s : State) (n : ℕ) → Solution s → Solution (state_with s.nodes (removed n s.equations))
solution_removed s n = solution_fewer _ s (removed_fewer s n)

module _ (s : State) (P : Proper s) (S : Solution s) (n : Node) (a : all_below (length s.nodes) (children_of n) ≡ true) where
  -- the new node is a class of its own, above all
  class : ℕ → ℕ
  class u = cond (ltb u (length s.nodes)) (suc (S.classes.class u)) 0

  height : ℕ → ℕ
  height u = cond (ltb u (length s.nodes)) (S.height u) (suc (sum_to S.height (length s.nodes)))

  class_old : (u : ℕ) → u < length s.nodes → class u ≡ suc (S.classes.class u)
  unfolding class
  class_old u h = rw (lt-ltb u (length s.nodes) h)

  class_new : (u : ℕ) → length s.nodes ≤ u → class u ≡ 0
  unfolding class
  class_new u h = rw (le-ltb u (length s.nodes) h)

  height_old : (u : ℕ) → u < length s.nodes → height u ≡ S.height u
  unfolding height
  height_old u h = rw (lt-ltb u (length s.nodes) h)

  height_new : (u : ℕ) → length s.nodes ≤ u → height u ≡ suc (sum_to S.height (length s.nodes))
  unfolding height
  height_new u h = rw (le-ltb u (length s.nodes) h)

  same_old : (u v : ℕ) → u < length s.nodes → v < length s.nodes → class u ≡ class v → S.classes.class u ≡ S.classes.class v
  same_old u v h k e = omega (arith, class_old u h, class_old v k)

  new_same : (u v : ℕ) → u < length s.nodes → v < length s.nodes → S.classes.class u ≡ S.classes.class v → class u ≡ class v
  new_same u v h k e = omega (arith, class_old u h, class_old v k)

  apart : (u v : ℕ) → u < length s.nodes → v ≡ length s.nodes → class u ≡ class v → ⊥
  apart u v h k e = omega (arith, class_old u h, class_new v (omega arith))

  at : (u : ℕ) (m : Node) → get_elem? (s.nodes ++ (n ∷ [])) u ≡ some m → (NodeAt s u m × (u < length s.nodes)) ⊎ ((u ≡ length s.nodes) × (n ≡ m))
  at u m h = ⊎_elim (λ o. inl (o, found_lt s.nodes u m o)) (λ o. inr o) (found_snoc s.nodes n u m h)

  -- a child of an old node, and of the new one
  child_old : (u f i x : ℕ) (cs : List ℕ) → NodeAt s u (functor f cs) → ChildAt cs i x → x < length s.nodes
  child_old u f i x cs m k = omega (arith, found_lt s.nodes u (functor f cs) m, P.earlier u f i x cs m k)

  child_new : (f i x : ℕ) (cs : List ℕ) → n ≡ functor f cs → ChildAt cs i x → x < length s.nodes
  child_new f i x cs e k = below_at (length s.nodes) cs i x (rw (ap children_of e) at a) k

  classes : Classes (state_with (s.nodes ++ (n ∷ [])) s.equations)
  classes = record {
    class = class;
    equated = λ e h. new_same e.left e.right (P.left_known e h) (P.right_known e h) (S.classes.equated e h);
    label = λ u v f g cs ds l r e.
        ⊎_elim
        (λ o. ⊎_elim (λ q. S.classes.label u v f g cs ds o.0 q.0 (same_old u v o.1 q.1 e)) (λ q. absurd (apart u v o.1 q.0 e)) (at v (functor g ds) r))
        (λ o. ⊎_elim (λ q. absurd (apart v u q.1 o.0 (sym e))) (λ q. let z : functor f cs ≡ functor g ds = sym o.1 ∙ q.1 in cc) (at v (functor g ds) r))
        (at u (functor f cs) l);
    place = λ u v f g i x y cs ds l r e k m.
        ⊎_elim
        (λ o. ⊎_elim (λ q. new_same x y (child_old u f i x cs o.0 k) (child_old v g i y ds q.0 m) (S.classes.place u v f g i x y cs ds o.0 q.0 (same_old u v o.1 q.1 e) k m)) (λ q. absurd (apart u v o.1 q.0 e)) (at v (functor g ds) r))
        (λ o. ⊎_elim (λ q. absurd (apart v u q.1 o.0 (sym e))) (λ q. let z : cs ≡ ds = ap children_of (sym o.1 ∙ q.1) in let w : x ≡ y = cc in ap class w) (at v (functor g ds) r))
        (at u (functor f cs) l);
  }

  split : (u : ℕ) → u < length (s.nodes ++ (n ∷ [])) → (u < length s.nodes) ⊎ (u ≡ length s.nodes)
  split u h =
      ⊎_elim (λ l. inl l) (λ l. inr (omega (arith, l, length-append s.nodes (n ∷ [])))) (cases_lt u (length s.nodes))

  pub solution_declared : Solution (state_with (s.nodes ++ (n ∷ [])) s.equations)
  unfolding classes
  solution_declared = record {
    classes = classes;
    height = height;
    level = λ u v h k e.
        ⊎_elim
        (λ o. ⊎_elim (λ q. omega (arith, height_old u o, height_old v q, S.level u v o q (same_old u v o q e))) (λ q. absurd (apart u v o q e)) (split v k))
        (λ o. ⊎_elim (λ q. absurd (apart v u q o (sym e))) (λ q. omega (arith, height_new u (omega arith), height_new v (omega arith))) (split v k))
        (split u h);
    lower = λ u f i v cs m k.
        ⊎_elim
        (λ o. let x : v < length s.nodes = child_old u f i v cs o.0 k in omega (arith, height_old u o.1, height_old v x, S.lower u f i v cs o.0 k))
        (λ o. let x : v < length s.nodes = child_new f i v cs o.1 k in omega (arith, height_new u (omega arith), height_old v x, sum_at S.height (length s.nodes) v x))
        (at u (functor f cs) m);
  }

-- the same after the book's answer, refused or not; of an equation that is taken, the verdict's side must say it
module _ (s : State) (P : Proper s) (S : Solution s) where
  pub solution_answer_declare : (n : Node) (k : ℕ) → Refusal s (declare n) k → Solution (answer s (declare n) k).state
  solution_answer_declare n zero v = solution_declared s P S n (declare_accepted s n v).known
  solution_answer_declare n (suc k) v = rw (ne_eqb (suc k) 0 (λ e. omega arith)) S

  pub solution_answer_equate : (e : Equation) (room k : ℕ) → (k ≡ 0 → Solution (offered s e)) → Solution (answer s (equate e room) k).state
  solution_answer_equate e room zero t = t refl
  solution_answer_equate e room (suc k) t = rw (ne_eqb (suc k) 0 (λ e. omega arith)) S

  pub solution_answer_withdraw : (n k : ℕ) → Solution (answer s (withdraw n) k).state
  solution_answer_withdraw n zero = solution_removed s n S
  solution_answer_withdraw n (suc k) = rw (ne_eqb (suc k) 0 (λ e. omega arith)) S

  pub solution_answer_clear : (k : ℕ) → Solution (answer s clear k).state
  solution_answer_clear zero = solution_empty
  solution_answer_clear (suc k) = rw (ne_eqb (suc k) 0 (λ e. omega arith)) S
