-- The values that check and shorter-of-two give: each is the only one of its type that says what it says.
use mathlib.Core.Path.{◌≡◌, refl, sym, ap, ◌∙◌, subst}
use mathlib.Core.List.{List}
use mathlib.Core.Option.{Option}
use Prim.Native.Nat.{ℕ}
use Rattle.std.specs.Prelude.{Result, Ok, Err, Some, None}
use Rattle.std.specs.declared.option.Option.{Option as Optional}
use Rattle.graph.specs.State.{Equation}
use Rattle.graph.specs.Goals.{Goal, Judgement, passed, refused, broken_line}
use Rattle.refusals.specs.Numbers.{refusal_number, Brought, nothing, proof, place, brings, numbered}
use Rattle.refusals.specs.declared.Refusal.{Refusal}
use Rattle.refusals.proofs.NumberLaws.{numbered_back}
use Rattle.proof_check.specs.Answers.{judged_as}
use Rattle.unifier.specs.Views.{Valid, state_of}
use Rattle.unifier.specs.Check.{Checks}
use Rattle.unifier.proofs.CheckLaws.{Listed, check_listed, replied, replied_back, judged_back, judgement, refused_by}
use Rattle.unifier.specs.declared.Workspace.{Workspace}
use Rattle.unifier.specs.declared.Outcome.{Outcome}
use Rattle.proof_shorter.specs.Choice.{Choice, first, second, refusal, refusal_in, broken_in, list_number, which, refused_for, choice}
use Rattle.proof_shorter.specs.Promises.{Chooses}
use Rattle.proof_shorter.specs.declared.List.{List as Which}
use Rattle.proof_shorter.specs.declared.List.TheVariants.{First, Second}
use Rattle.proof_shorter.specs.declared.NoChoice.{NoChoice}
use Rattle.proof_shorter.proofs.ChoiceLaws.{Listed_choice, shorter_listed, chosen_as, chosen_back, chosen_there}
use Rattle.demands.specs.Demand1.{NoProof, FromCheck, ForList, FromShorter}

-- ---- check

check_listed_lem : (r : Result (Unit {0}) Refusal) → FromCheck r → Listed (judged_as r)
check_listed_lem (Ok u) f = tt
check_listed_lem (Err r) f = subst Listed (sym (refused_by r)) (go (brings r) refl f)
  where
    go : (b : Brought) → brings r ≡ b → NoProof b → Listed (judgement (refusal_number r) b)
    go nothing e f = (ap refusal_number (numbered_back r e), ap brings (numbered_back r e) ∙ e)
    go (proof n) e f = absurd f
    go (place i) e f = tt

pub check_one : (r : Result (Unit {0}) Refusal) → FromCheck r → replied (judged_as r) ≡ r
check_one r f = judged_back r (check_listed_lem r f)

pub check_says : (r : Result (Unit {0}) Refusal) (j : Judgement) → FromCheck r → judged_as r ≡ j → judged_as (replied j) ≡ j
check_says r j f e = replied_back j (subst Listed e (check_listed_lem r f))

-- a reply with a judgement that is listed
from_listed : (r : Result (Unit {0}) Refusal) → Listed (judged_as r) → FromCheck r
from_listed r p = subst FromCheck (judged_back r p) (go (judged_as r) p)
  where
    go : (j : Judgement) → Listed j → FromCheck (replied j)
    go passed p = tt
    go (refused k) p = rw p.1 tt
    go (broken_line i) p = tt

-- whether the value is a workspace needn't be known
pub check_gives : (w : Workspace) (o : Option Equation) (g : Goal) (bytes : List ℕ) (r : Outcome (Unit {0})) → Checks w o g bytes r → FromCheck r.reply
check_gives w o g bytes r C = stable r.reply (λ n. n (none (λ v. n (some v))))
  where
    some : Valid w → FromCheck r.reply
    some v = from_listed r.reply (subst Listed (sym (C.replies v)) (check_listed (state_of w) o g bytes))

    none : (Valid w → ⊥) → FromCheck r.reply
    none z = from_listed r.reply (subst Listed (sym (C.refuses z)) (refl, refl))

    stable : (q : Result (Unit {0}) Refusal) → ((FromCheck q → ⊥) → ⊥) → FromCheck q
    stable (Ok u) n = tt
    stable (Err k) n = go (brings k) n
      where
        go : (b : Brought) → ((NoProof b → ⊥) → ⊥) → NoProof b
        go nothing n = tt
        go (proof m) n = n (λ f. f)
        go (place i) n = tt

-- ---- shorter-of-two

which_back : (l : Which) → which (list_number l) ≡ l
which_back First = refl
which_back Second = refl

choice_listed : (r : Result Which NoChoice) → FromShorter r → Listed_choice (choice r)
choice_listed (Ok First) f = tt
choice_listed (Ok Second) f = tt
choice_listed (Err n) f = go n.list (brings n.refusal) refl f
  where
    alone : brings n.refusal ≡ nothing → (refusal_number (numbered (refusal_number n.refusal)) ≡ refusal_number n.refusal) × (brings (numbered (refusal_number n.refusal)) ≡ nothing)
    alone e = (ap refusal_number (numbered_back n.refusal e), ap brings (numbered_back n.refusal e) ∙ e)

    go : (l : Optional Which) (b : Brought) → brings n.refusal ≡ b → ForList l b → Listed_choice (refused_for l (refusal_number n.refusal) b)
    go None b e f = alone (e ∙ f)
    go (Some l) nothing e f = (alone e, ap list_number (which_back l))
    go (Some l) (proof m) e f = absurd f
    go (Some l) (place i) e f = ap list_number (which_back l)

pub choice_one : (r : Result Which NoChoice) → FromShorter r → chosen_as (choice r) ≡ r
choice_one r f = chosen_there r (choice_listed r f)

pub choice_says : (r : Result Which NoChoice) (c : Choice) → FromShorter r → choice r ≡ c → choice (chosen_as c) ≡ c
choice_says r c f e = chosen_back c (subst Listed_choice e (choice_listed r f))

for_listed : (r : Result Which NoChoice) → Listed_choice (choice r) → FromShorter r
unfolding chosen_as
for_listed r p = subst FromShorter (chosen_there r p) (go (choice r) p)
  where
    go : (c : Choice) → Listed_choice c → FromShorter (chosen_as c)
    go first p = tt
    go second p = tt
    go (refusal k) p = p.1
    go (refusal_in k l) p = rw p.0.1 tt
    go (broken_in l i) p = tt

pub choice_gives : (w : Workspace) (o : Option Equation) (g : Goal) (a b : List ℕ) (r : Result Which NoChoice) → Chooses w o g a b r → FromShorter r
choice_gives w o g a b r C = stable r (λ n. n (none (λ v. n (some v))))
  where
    some : Valid w → FromShorter r
    some v = for_listed r (subst Listed_choice (sym (C.replies v)) (shorter_listed (state_of w) o g a b))

    none : (Valid w → ⊥) → FromShorter r
    none z = for_listed r (subst Listed_choice (sym (C.refuses z)) (refl, refl))

    stable : (q : Result Which NoChoice) → ((FromShorter q → ⊥) → ⊥) → FromShorter q
    stable (Ok l) n = tt
    stable (Err k) n = go k.list (brings k.refusal) n
      where
        go : (l : Optional Which) (b : Brought) → ((ForList l b → ⊥) → ⊥) → ForList l b
        go None nothing n = refl
        go None (proof m) n = absurd (n (λ e. cc))
        go None (place i) n = absurd (n (λ e. cc))
        go (Some l) nothing n = tt
        go (Some l) (proof m) n = n (λ f. f)
        go (Some l) (place i) n = tt
