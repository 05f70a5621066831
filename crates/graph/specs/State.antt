-- The state that every contract speaks of, and lookups in it.
--   Node         a variable, or a functor node with its symbol and its children
--   Equation     a name and two nodes, its left and its right end
--   State        document 01's book: the nodes in order of declaration, the held equations in the order taken
--   IsNode       a known node
--   NodeAt, ChildAt, Held   what stands at a place of a list
--   FunctorAt    a functor node stands there
--   name_held    a name is held
--   EqualLabels  equal labels of two functor nodes: one symbol
--   OneArity     functor nodes of one symbol have equally many children
--   Proper       each child is an earlier node, each end of an equation a known node
--   offered      the state with one equation more, document 01's held and offered together
--   with_offer   the same where perhaps one equation is offered
use Rattle.std.specs.Prelude.{◌≡◌, Bool, true, false, cond, List, [], ◌∷◌, ◌++◌, ℕ, ◌<◌, length, eqb}
use Rattle.std.proofs.Math.Option.{Option, none, some}
use Rattle.std.proofs.Math.ListN.{get_elem?}

pub data Node : Type 0 where
  variable : Node
  functor : ℕ → List ℕ → Node

pub record Equation : Type 0 where
  pub name : ℕ
  pub left : ℕ
  pub right : ℕ

pub record State : Type 0 where
  pub nodes : List Node
  pub equations : List Equation

abbrev pub equation_of : ℕ → ℕ → ℕ → Equation
equation_of n u v = record { name = n; left = u; right = v }

abbrev pub state_with : List Node → List Equation → State
state_with ns es = record { nodes = ns; equations = es }

-- the state without nodes or equations, as a fresh workspace has it
abbrev pub empty_state : State
empty_state = state_with [] []

abbrev pub IsNode : State → ℕ → Type 0
IsNode s u = u < length s.nodes

-- node u of the state is n
abbrev pub NodeAt : State → ℕ → Node → Type 0
NodeAt s u n = get_elem? s.nodes u ≡ some n

abbrev pub FunctorAt : State → ℕ → Type 0
FunctorAt s u = (f : ℕ) × (cs : List ℕ) × NodeAt s u (functor f cs)

-- v is the child at place i, counted from 0, among the children cs
abbrev pub ChildAt : List ℕ → ℕ → ℕ → Type 0
ChildAt cs i v = get_elem? cs i ≡ some v

-- the state holds e
abbrev pub Held : State → Equation → Type 0
Held s e = (i : ℕ) × (get_elem? s.equations i ≡ some e)

-- some equation has the name
abbrev pub name_held : ℕ → List Equation → Bool
name_held n [] = false
name_held n (e ∷ es) = cond (eqb e.name n) true (name_held n es)

-- a functor node's label is its symbol: of nodes with symbols f and g
abbrev pub EqualLabels : (f g : ℕ) → Type 0
EqualLabels f g = f ≡ g

-- the paper's signature, document 02 (c): each symbol has one arity. `State` has values that break this, of which labels without the arity say
-- too little; no list of calls leads to one (proofs/ArityLaws), and no workspace holds one (`TermsShape` of store)
abbrev pub OneArity : List Node → Type 0
OneArity ns =
    (u v f : ℕ) (cs ds : List ℕ) → get_elem? ns u ≡ some (functor f cs) → get_elem? ns v ≡ some (functor f ds) → length cs ≡ length ds

pub record Proper (s : State) : Type 0 where
  pub earlier : (u f i v : ℕ) (cs : List ℕ) → NodeAt s u (functor f cs) → ChildAt cs i v → v < u
  pub left_known : (e : Equation) → Held s e → IsNode s e.left
  pub right_known : (e : Equation) → Held s e → IsNode s e.right

abbrev pub offered : State → Equation → State
offered s e = state_with s.nodes (s.equations ++ (e ∷ []))

-- the held equations, then the offered one, if there is one
abbrev pub extended : List Equation → Option Equation → List Equation
extended es none = es
extended es (some e) = es ++ (e ∷ [])

abbrev pub with_offer : State → Option Equation → State
with_offer s o = state_with s.nodes (extended s.equations o)
