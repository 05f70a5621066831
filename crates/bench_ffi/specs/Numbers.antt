-- Replies as numbers, for callers in other languages.
--   in_numbers, .. a reply as three numbers: 0 a refusal, its number and, with 8, 9 and 12, the count of proof
--                  lines or the line; 1 a node; 2 held; 3 gone; 4 same, 5 below, 6 above, each with the count of proof lines;
--                  7 apart; 8 a class, its number and size; 9 passed
--   ByNumbers      what a call promises of its result, told by these numbers and the workspace
use Rattle.std.specs.Prelude.{◌≡◌, List, [], ◌∷◌, ℕ, Result, Ok, Err}
use Rattle.refusals.specs.Numbers.{refusal_number, Brought, nothing, proof, place, brings}
use Rattle.refusals.specs.declared.Refusal.{Refusal}
use Rattle.solve_classes.specs.declared.Figures.{Figures}
use Rattle.unifier_respond.specs.declared.Standing.{Standing}
use Rattle.unifier_respond.specs.declared.Standing.TheVariants as stands
use Rattle.unifier.specs.declared.Workspace.{Workspace}
use Rattle.unifier.specs.declared.Outcome.{Outcome}

abbrev pub told_of : ℕ → ℕ → ℕ → List ℕ
told_of k i j = k ∷ (i ∷ (j ∷ []))

abbrev pub brought : Brought → ℕ
brought nothing = 0
brought (proof n) = n
brought (place i) = i

abbrev pub refused_numbers : Refusal → List ℕ
refused_numbers r = told_of 0 (refusal_number r) (brought (brings r))

abbrev pub node_numbers : ℕ → List ℕ
node_numbers u = told_of 1 u 0

abbrev pub held_numbers : Unit {0} → List ℕ
held_numbers u = told_of 2 0 0

abbrev pub gone_numbers : Unit {0} → List ℕ
gone_numbers u = told_of 3 0 0

abbrev pub stance_numbers : Standing → List ℕ
stance_numbers (stands.Same n) = told_of 4 n 0
stance_numbers (stands.Below n) = told_of 5 n 0
stance_numbers (stands.Above n) = told_of 6 n 0
stance_numbers stands.Apart = told_of 7 0 0

abbrev pub class_numbers : Figures → List ℕ
class_numbers k = told_of 8 k.number k.size

abbrev pub passed_numbers : Unit {0} → List ℕ
passed_numbers u = told_of 9 0 0

abbrev pub in_numbers : {A : Type 0} → (A → List ℕ) → Result A Refusal → List ℕ
in_numbers says (Ok a) = says a
in_numbers says (Err r) = refused_numbers r

pub record ByNumbers {A : Type 0} (P : Outcome A → Type 0) (numbers : Result A Refusal → List ℕ) (ns : List ℕ) (w : Workspace) : Type 0 where
  pub outcome : Outcome A
  pub promise : P outcome
  pub says : ns ≡ numbers outcome.reply
  pub after : w ≡ outcome.workspace
