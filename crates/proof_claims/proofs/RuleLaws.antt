-- What a line claims, rule by rule.
use Rattle.std.proofs.Common.{◌≡◌, refl, sym, ◌∙◌, Bool, true, false, List}
use Rattle.std.proofs.Math.Option.{Option, none}
use Rattle.graph.specs.State.{State}
use Rattle.graph.specs.Lines.{Line, Claim, need, by_equation, by_child, by_reflexivity, by_symmetry, by_transitivity, by_down, tidy, by_rule, claim_of}
use Rattle.proof_lines.specs.declared.Rule.{Rule}
use Rattle.proof_lines.specs.declared.Rule.TheVariants.{Equation, Child, Reflexivity, Symmetry, Transitivity, Down}
use Rattle.proof_lines.specs.Reading.{number_of}
use borrow.Author.Tests.{ne_eqb}
use mathlib.Core.Bool.{and-false}

need_none : {A : Type 0} (b : Bool) → none ≡ need {A = A} b none
need_none true = refl
need_none false = refl

-- bytes 6 and 7 are to be zero
tidy_reserved : (l : Line) → (l.reserved ≡ 0 → ⊥) → tidy l ≡ false
unfolding tidy
tidy_reserved l h = rw (ne_eqb _ _ h) (simp and-false)

module _ (s : State) (done : List Claim) (l : Line) where
  -- what a rule claims of the line
  abbrev pub claim_under : Rule → Option Claim
  claim_under Equation = by_equation s.equations l.first
  claim_under Child = by_child s.nodes l.first l.place
  claim_under Reflexivity = by_reflexivity s.nodes l.first
  claim_under Symmetry = by_symmetry done l.first
  claim_under Transitivity = by_transitivity done l.first l.second
  claim_under Down = by_down s.nodes done l.first l.place

  ruled : (r : Rule) → number_of r ≡ l.rule → claim_under r ≡ by_rule s done l
  unfolding by_rule
  ruled Equation e = rw (← e)
  ruled Child e = rw (← e)
  ruled Reflexivity e = rw (← e)
  ruled Symmetry e = rw (← e)
  ruled Transitivity e = rw (← e)
  ruled Down e = rw (← e)

  -- b is the code's answer to whether the line is tidy
  pub claim_untidy : (b : Bool) → b ≡ tidy l → b ≡ false → none ≡ claim_of s done l
  unfolding claim_of
  claim_untidy b d e = let q : tidy l ≡ false = cc in rw q

  pub claim_reserved : (l.reserved ≡ 0 → ⊥) → claim_of s done l ≡ none
  claim_reserved h = sym (claim_untidy false (sym (tidy_reserved l h)) refl)

  pub claim_unruled : ((r : Rule) → number_of r ≡ l.rule → ⊥) → none ≡ claim_of s done l
  unfolding claim_of by_rule
  claim_unruled n =
      rw (ne_eqb l.rule 1 (λ e. n Equation (sym e)), ne_eqb l.rule 2 (λ e. n Child (sym e)), ne_eqb l.rule 3 (λ e. n Reflexivity (sym e)), ne_eqb l.rule 4 (λ e. n Symmetry (sym e)), ne_eqb l.rule 5 (λ e. n Transitivity (sym e)), ne_eqb l.rule 6 (λ e. n Down (sym e)))
      (need_none (tidy l))

  -- x is the code's answer to which rule it is, o its answer to what the rule claims
  pub claim_ruled : (b : Bool) → b ≡ tidy l → b ≡ true → (x r : Rule) → number_of x ≡ l.rule → x ≡ r → (o : Option Claim) → o ≡ claim_under r → o ≡ claim_of s done l
  unfolding claim_of
  claim_ruled b d t x r n e o q =
      let k : tidy l ≡ true = cc in
      let m : number_of r ≡ l.rule = rw e at n in
      rw k (q ∙ ruled r m)
