-- Worked examples of the class reply (document 02 (b)), on five nodes without children: 0 and 3 are variables, 1 is symbol 0, 2 and 4 are symbol 7.
use Rattle.std.specs.Prelude.{List, [], ◌∷◌, ℕ}
use Rattle.graph.specs.State.{variable, functor, Equation, equation_of, State, state_with}
use Rattle.solve_classes.specs.Members.{ClassOf}

abbrev pub five_nodes : List Equation → State
five_nodes es = state_with (variable ∷ functor 0 [] ∷ functor 7 [] ∷ variable ∷ functor 7 [] ∷ []) es

pub record ClassExamples : Type 0 where
  -- each node is alone
  pub lone_variable : ClassOf (five_nodes []) 0 0 1
  pub lone_functor : ClassOf (five_nodes []) 1 1 1
  -- 0 = 1: the functor node is shown, not the lowest node; its symbol doesn't count
  pub lower_variable : ClassOf (five_nodes (equation_of 1 0 1 ∷ [])) 0 1 2
  pub its_own : ClassOf (five_nodes (equation_of 1 0 1 ∷ [])) 1 1 2
  pub not_lowest : (size : ℕ) → ClassOf (five_nodes (equation_of 1 0 1 ∷ [])) 0 0 size → ⊥
  -- 0 = 3: the lowest variable
  pub variables : ClassOf (five_nodes (equation_of 2 0 3 ∷ [])) 3 0 2
  -- 0 = 3 = 4 = 2: the lowest of two functor nodes, and not 1, of another class
  pub two_functors : ClassOf (five_nodes (equation_of 2 0 3 ∷ equation_of 3 3 4 ∷ equation_of 4 4 2 ∷ [])) 0 2 4
