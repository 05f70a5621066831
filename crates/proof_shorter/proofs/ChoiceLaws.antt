-- Laws of the choice: what the checks' replies make of it, and that what is handed back passes.
use mathlib.Core.Path.{◌≡◌, refl, sym, ap, ◌∙◌, subst}
use mathlib.Core.Bool.{Bool, true, false, ◌&&◌, cond}
use mathlib.Core.List.{List, []}
use mathlib.Core.Option.{Option}
use mathlib.Core.Logic.{inl, inr, ⊎_elim}
use Prim.Native.Nat.{ℕ, ◌≤◌, ◌<◌}
use native.Mathlib.Omega.{arith}
use lib.ListN.{length}
use lib.Dec.{ltb}
use borrow.Author.Tests.{lt-ltb, le-ltb, ltb-true, ltb-false}
use Rattle.graph.specs.State.{State, Equation}
use Rattle.graph.specs.Goals.{Goal, Judgement, passed, refused, broken_line}
use Rattle.proof_check.specs.Answers.{answer_to}
use Rattle.unifier.specs.Views.{state_of, Valid}
use Rattle.std.specs.Prelude.{Result, Ok, Err, Some, None}
use Rattle.std.specs.declared.option.Option.{Option as Optional}
use Rattle.refusals.specs.Numbers.{refusal_number, Brought, nothing, proof, place, brings, numbered}
use Rattle.refusals.specs.declared.Refusal.TheVariants.{BrokenLine}
use Rattle.refusals.proofs.NumberLaws.{proof_number, place_is, numbered_back}
use Rattle.unifier.proofs.CheckLaws.{Listed, check_listed}
use Rattle.proof_rules.specs.Rules.{offer_below}
use Rattle.unifier.specs.Check.{check_reply, goal_below, offer_new}
use Rattle.unifier.specs.declared.Workspace.{Workspace}
use Rattle.proof_shorter.specs.Choice.{Choice, first, second, refusal, refusal_in, broken_in, list_number, which, refused_for, choice, in_list, or_else, line_count, fewer_lines, shorter_reply, part_of, shorter_of}
use Rattle.proof_shorter.specs.Promises.{Passing, Chooses, Hands}
use Rattle.proof_shorter.specs.Best.{Best, Picked, Shorter}
use Rattle.proof_shorter.specs.declared.List.{List as Which}
use Rattle.proof_shorter.specs.declared.List.TheVariants.{First, Second}
use Rattle.proof_shorter.specs.declared.NoChoice.{NoChoice}

-- ---- the code's steps

pub fewer_second : (a b : List ℕ) → line_count b < line_count a → second ≡ fewer_lines a b
fewer_second a b h = rw (lt-ltb _ _ h)

pub fewer_first : (a b : List ℕ) → line_count a ≤ line_count b → first ≡ fewer_lines a b
fewer_first a b h = rw (le-ltb _ _ h)

module _ (w : Workspace) (o : Option Equation) (g : Goal) (a b : List ℕ) where
  pub first_refused : {x : Result (Unit {0}) NoChoice} {r : Result Which NoChoice} (n : NoChoice) → x ≡ Err n → Passing w o g 1 a x → r ≡ Err n → Chooses w o g a b r
  unfolding shorter_reply
  first_refused n e P q = let p = rw e at P in rw q (record { refuses = λ z. p.refuses z first; replies = λ v. p.replies v _ })

  pub second_refused : {x y : Result (Unit {0}) NoChoice} {r : Result Which NoChoice} (n : NoChoice) → x ≡ Ok tt → Passing w o g 1 a x → y ≡ Err n → Passing w o g 2 b y → r ≡ Err n
      → Chooses w o g a b r
  unfolding shorter_reply
  second_refused n d P e Q q =
      let p = rw d at P in
      let k = rw e at Q in
      rw q (record { refuses = λ z. k.refuses z first; replies = λ v. k.replies v (fewer_lines a b) ∙ p.replies v _ })

  pub chosen : {x y : Result (Unit {0}) NoChoice} (r : Result Which NoChoice) → x ≡ Ok tt → Passing w o g 1 a x → y ≡ Ok tt → Passing w o g 2 b y → choice r ≡ fewer_lines a b
      → Chooses w o g a b r
  unfolding shorter_reply
  chosen r d P h Q e =
      let p = rw d at P in
      let k = rw h at Q in
      record {
        refuses = λ z. let q : first ≡ refusal 1 = p.refuses z first in cc;
        replies = λ v. e ∙ k.replies v (fewer_lines a b) ∙ p.replies v _;
      }

  pub part : {x : Result Which NoChoice} (y : Result Which NoChoice) (r : List ℕ) → Chooses w o g a b x → x ≡ y → r ≡ part_of (choice y) a b → Hands w o g a b r
  part y r C e q =
      record {
        refuses = λ n. q ∙ ap (λ (c : Choice). part_of c a b) (ap choice (sym e) ∙ C.refuses n);
        hands = λ v. q ∙ ap (λ (c : Choice). part_of c a b) (ap choice (sym e) ∙ C.replies v);
      }

-- ---- one value for each choice

-- the choice's number is that of a refusal which brings nothing, and its list is 1 or 2
abbrev pub Listed_choice : Choice → Type 0
Listed_choice first = Unit {0}
Listed_choice second = Unit {0}
Listed_choice (refusal k) = (refusal_number (numbered k) ≡ k) × (brings (numbered k) ≡ nothing)
Listed_choice (refusal_in k l) = ((refusal_number (numbered k) ≡ k) × (brings (numbered k) ≡ nothing)) × (list_number (which l) ≡ l)
Listed_choice (broken_in l i) = list_number (which l) ≡ l

or_else_listed : (l : ℕ) (j : Judgement) (c : Choice) → list_number (which l) ≡ l → Listed j → Listed_choice c → Listed_choice (or_else l j c)
or_else_listed l passed c x p q = q
or_else_listed l (refused k) c x p q = go (ltb k 11)
  where
    go : (b : Bool) → Listed_choice (cond b (refusal k) (refusal_in k l))
    go true = p
    go false = (p, x)
or_else_listed l (broken_line i) c x p q = x

pub shorter_listed : (s : State) (o : Option Equation) (g : Goal) (a b : List ℕ) → Listed_choice (shorter_reply s o g a b)
unfolding shorter_reply
shorter_listed s o g a b =
    or_else_listed 1 (check_reply s o g a) _ refl (check_listed s o g a)
    (or_else_listed 2 (check_reply s o g b) _ refl (check_listed s o g b) (go (ltb (line_count b) (line_count a))))
  where
    go : (t : Bool) → Listed_choice (cond t second first)
    go true = tt
    go false = tt

unfoldable pub chosen_as : Choice → Result Which NoChoice
chosen_as first = Ok First
chosen_as second = Ok Second
chosen_as (refusal k) = Err (record { refusal = numbered k; list = None })
chosen_as (refusal_in k l) = Err (record { refusal = numbered k; list = Some (which l) })
chosen_as (broken_in l i) = Err (record { refusal = BrokenLine i; list = Some (which l) })

pub chosen_back : (c : Choice) → Listed_choice c → choice (chosen_as c) ≡ c
unfolding chosen_as
chosen_back first p = refl
chosen_back second p = refl
chosen_back (refusal k) p = rw p.0 refl
chosen_back (refusal_in k l) p = rw (p.0.0, p.0.1, p.1) refl
chosen_back (broken_in l i) p = rw p refl

pub chosen_there : (r : Result Which NoChoice) → Listed_choice (choice r) → chosen_as (choice r) ≡ r
unfolding chosen_as
chosen_there (Ok First) p = refl
chosen_there (Ok Second) p = refl
chosen_there (Err n) p = go n.list (brings n.refusal) refl p
  where
    which_back : (l : Which) → which (list_number l) ≡ l
    which_back First = refl
    which_back Second = refl

    eight : refusal_number (numbered 8) ≡ 8 → ⊥
    eight h = omega (arith, h)

    nine : refusal_number (numbered 9) ≡ 9 → ⊥
    nine h = omega (arith, h)

    twelve : refusal_number (numbered 12) ≡ 12 → ⊥
    twelve h = omega (arith, h)

    no_proof : (m : ℕ) → brings n.refusal ≡ proof m → refusal_number (numbered (refusal_number n.refusal)) ≡ refusal_number n.refusal → ⊥
    no_proof m e h = ⊎_elim (λ q. eight (rw q at h)) (λ q. nine (rw q at h)) (proof_number n.refusal m e)

    go : (l : Optional Which) (b : Brought) → brings n.refusal ≡ b → Listed_choice (refused_for l (refusal_number n.refusal) b)
        → chosen_as (refused_for l (refusal_number n.refusal) b) ≡ Err (record { refusal = n.refusal; list = l })
    go None nothing e p = rw (numbered_back n.refusal e) refl
    go None (proof m) e p = absurd (no_proof m e p.0)
    go None (place i) e p = absurd (twelve (rw (place_is n.refusal i e) at p.0))
    go (Some l) nothing e p = rw (numbered_back n.refusal e, which_back l) refl
    go (Some l) (proof m) e p = absurd (no_proof m e p.0.0)
    go (Some l) (place i) e p = rw (place_is n.refusal i e, which_back l) refl

module _ (s : State) (o : Option Equation) (g : Goal) (a b : List ℕ) where
  pub choice_back : choice (chosen_as (shorter_reply s o g a b)) ≡ shorter_reply s o g a b
  choice_back = chosen_back (shorter_reply s o g a b) (shorter_listed s o g a b)

  pub choice_there : (r : Result Which NoChoice) → choice r ≡ shorter_reply s o g a b → chosen_as (shorter_reply s o g a b) ≡ r
  choice_there r e = ap chosen_as (sym e) ∙ chosen_there r (subst Listed_choice (sym e) (shorter_listed s o g a b))

-- of what is no workspace
pub no_choice_there : (r : Result Which NoChoice) → choice r ≡ refusal 1 → chosen_as (refusal 1) ≡ r
no_choice_there r e = ap chosen_as (sym e) ∙ chosen_there r (subst Listed_choice (sym e) (refl, refl))

-- ---- what is handed back

module _ (s : State) (o : Option Equation) (g : Goal) where
  -- no empty list passes
  passes_some : (r : List ℕ) → check_reply s o g r ≡ passed → r ≡ [] → ⊥
  unfolding check_reply answer_to
  passes_some r p e = go (offer_below (length s.nodes) o && goal_below (length s.nodes) g) (offer_new s o) (rw e at p)
    where
      go : (b c : Bool) → cond b (cond c (refused 11) (refused 6)) (refused 4) ≡ passed → ⊥
      go true true q = cc
      go true false q = cc
      go false c q = cc

  module _ (a b : List ℕ) where
    best_of : check_reply s o g a ≡ passed → check_reply s o g b ≡ passed → Best s o g a b (shorter_of s o g a b)
    unfolding shorter_reply
    best_of p q = rw (p, q) (go (ltb (line_count b) (line_count a)) refl)
      where
        go : (t : Bool) → ltb (line_count b) (line_count a) ≡ t → Best s o g a b (part_of (cond t second first) a b)
        go true e =
            let h : line_count b < line_count a = ltb-true _ _ e in
            record { passes = q; one_of = inr refl; first = omega arith; second = omega arith; some = passes_some b q }
        go false e =
            let h : line_count a ≤ line_count b = ltb-false _ _ e in
            record { passes = p; one_of = inl refl; first = omega arith; second = h; some = passes_some a p }

    -- a refused list hands back nothing, whatever its number
    empty_in : (k l : ℕ) → (part_of (in_list k l) a b ≡ [] → ⊥) → ⊥
    empty_in k l n = go (ltb k 11) n
      where
        go : (t : Bool) → (part_of (cond t (refusal k) (refusal_in k l)) a b ≡ [] → ⊥) → ⊥
        go true n = n refl
        go false n = n refl

    both_pass : (shorter_of s o g a b ≡ [] → ⊥) → (check_reply s o g a ≡ passed) × (check_reply s o g b ≡ passed)
    unfolding shorter_reply
    both_pass n = go (check_reply s o g a) (check_reply s o g b) n
      where
        go : (j k : Judgement) → (part_of (or_else 1 j (or_else 2 k (fewer_lines a b))) a b ≡ [] → ⊥) → (j ≡ passed) × (k ≡ passed)
        go passed passed n = (refl, refl)
        go passed (refused k) n = absurd (empty_in k 2 n)
        go passed (broken_line i) n = absurd (n refl)
        go (refused k) j n = absurd (empty_in k 1 n)
        go (broken_line i) j n = absurd (n refl)

    pub picked : Picked s o g a b
    picked = record { best = best_of; both = both_pass }

pub handed : (w : Workspace) (o : Option Equation) (g : Goal) (a b r : List ℕ) → Valid w → Hands w o g a b r → (r ≡ [] → ⊥) → Best (state_of w) o g a b r
handed w o g a b r v H n =
    let e : r ≡ shorter_of (state_of w) o g a b = H.hands v in
    let P = (picked (state_of w) o g a b).both (λ z. n (e ∙ z)) in
    rw e ((picked (state_of w) o g a b).best P.0 P.1)

pub best : Shorter
best = record { picked = picked; handed = handed }
