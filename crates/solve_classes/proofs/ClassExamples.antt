-- The worked examples hold: a list of classes tells nodes apart, equations join them, and the rest is computed.
use mathlib.Core.Path.{◌≡◌, refl}
use mathlib.Core.Bool.{Bool, true, false}
use mathlib.Core.List.{List, [], ◌∷◌}
use Prim.Native.Nat.{ℕ, zero, suc, ◌<◌}
use native.Mathlib.Omega.{arith}
use mathlib.Core.Option.{some}
use lib.ListN.{get_or, get_elem?}
use lib.Dec.{eqb}
use Rattle.graph.specs.State.{Equation, equation_of, State, IsNode, FunctorAt}
use Rattle.graph.specs.Closure.{Same, equation, reflexivity, symmetry, transitivity}
use Rattle.graph.proofs.SolutionTest.{is_classes, apart}
use Rattle.solve_classes.specs.Members.{functor_kind, size_of, lowest_from, class_number, ClassOf}
use Rattle.solve_classes.specs.ClassExamples.{five_nodes, ClassExamples}
use Rattle.solve_classes.proofs.MemberLaws.{class_by, class_unique}

abbrev kinds : List ℕ
kinds = 0 ∷ 1 ∷ 1 ∷ 0 ∷ 1 ∷ []

module _ (es : List Equation) where
  abbrev s : State
  s = five_nodes es

  typed_only : (v : ℕ) → IsNode s v → functor_kind kinds v ≡ true → FunctorAt s v
  typed_only zero n e = cc
  typed_only (suc zero) n e = (0, [], refl)
  typed_only (suc (suc zero)) n e = (7, [], refl)
  typed_only (suc (suc (suc zero))) n e = cc
  typed_only (suc (suc (suc (suc zero)))) n e = (7, [], refl)
  typed_only (suc (suc (suc (suc (suc v))))) n e = absurd (omega arith)

  typed_all : (v : ℕ) → FunctorAt s v → functor_kind kinds v ≡ true
  typed_all zero F = cc F.2
  typed_all (suc zero) F = refl
  typed_all (suc (suc zero)) F = refl
  typed_all (suc (suc (suc zero))) F = cc F.2
  typed_all (suc (suc (suc (suc zero)))) F = refl
  typed_all (suc (suc (suc (suc (suc v))))) F = cc F.2

  -- the nodes' classes, numbered from 1; which of them are joined, of those that have u's number
  module _ (c₀ c₁ c₂ c₃ c₄ : ℕ) where
    abbrev cs : List ℕ
    cs = c₀ ∷ c₁ ∷ c₂ ∷ c₃ ∷ c₄ ∷ []

    module _ (ok : is_classes s cs ≡ true) (u : ℕ) (k : u < 5) where
      abbrev mate : ℕ → Bool
      mate v = eqb (get_or cs u 0) (get_or cs v 0)

      together : (v : ℕ) → Same s u v → mate v ≡ true
      together v p = go (mate v) refl
        where
          go : (b : Bool) → mate v ≡ b → b ≡ true
          go true e = refl
          go false e = absurd (apart s cs u v ok e p)

      class_with : mate 5 ≡ false
          → (mate 0 ≡ true → Same s u 0) → (mate 1 ≡ true → Same s u 1) → (mate 2 ≡ true → Same s u 2) → (mate 3 ≡ true → Same s u 3) → (mate 4 ≡ true → Same s u 4)
          → ClassOf s u (class_number mate (functor_kind kinds)) (size_of mate 64)
      class_with past p₀ p₁ p₂ p₃ p₄ = class_by s u k (omega arith) mate (functor_kind kinds) joined together typed_only typed_all
        where
          joined : (v : ℕ) → v < 64 → mate v ≡ true → IsNode s v × Same s u v
          joined zero h e = (omega arith, p₀ e)
          joined (suc zero) h e = (omega arith, p₁ e)
          joined (suc (suc zero)) h e = (omega arith, p₂ e)
          joined (suc (suc (suc zero))) h e = (omega arith, p₃ e)
          joined (suc (suc (suc (suc zero)))) h e = (omega arith, p₄ e)
          joined (suc (suc (suc (suc (suc v))))) h e = cc

no : {A : Type 0} → false ≡ true → A
no e = cc

-- the equation at a place of the list joins its ends
abbrev by : (es : List Equation) (i : ℕ) (d : Equation) → get_elem? es i ≡ some d → Same (five_nodes es) d.left d.right
by es i d e = equation (i, e)

abbrev one : List Equation
one = equation_of 1 0 1 ∷ []

abbrev two : List Equation
two = equation_of 2 0 3 ∷ []

abbrev four : List Equation
four = equation_of 2 0 3 ∷ equation_of 3 3 4 ∷ equation_of 4 4 2 ∷ []

shown : ClassOf (five_nodes one) 0 1 2
unfolding lowest_from size_of
shown = class_with one 1 1 3 4 5 refl 0 (omega arith) refl (λ e. reflexivity (omega arith)) (λ e. by one 0 _ refl) no no no

pub class_examples : ClassExamples
unfolding lowest_from size_of
class_examples =
    record {
      lone_variable = class_with [] 1 2 3 4 5 refl 0 (omega arith) refl (λ e. reflexivity (omega arith)) no no no no;
      lone_functor = class_with [] 1 2 3 4 5 refl 1 (omega arith) refl no (λ e. reflexivity (omega arith)) no no no;
      lower_variable = shown;
      its_own = class_with one 1 1 3 4 5 refl 1 (omega arith) refl (λ e. symmetry (by one 0 _ refl)) (λ e. reflexivity (omega arith)) no no no;
      not_lowest = λ size p. cc (class_unique p shown).0;
      variables = class_with two 1 2 3 1 5 refl 3 (omega arith) refl (λ e. symmetry (by two 0 _ refl)) no no (λ e. reflexivity (omega arith)) no;
      two_functors =
          class_with four 1 2 1 1 1 refl 0 (omega arith) refl
          (λ e. reflexivity (omega arith)) no
          (λ e. transitivity (by four 0 _ refl) (transitivity (by four 1 _ refl) (by four 2 _ refl)))
          (λ e. by four 0 _ refl)
          (λ e. transitivity (by four 0 _ refl) (by four 1 _ refl));
    }
