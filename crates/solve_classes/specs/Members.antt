-- A class's members (document 01: "a class's members are one 64-bit set"), and what the class reply says of a node's class.
--   in_class      the test that a node's entry in the table is c
--   functor_kind  the test that a node is a functor node, by its kind
--   set_of        the numbers below n that pass a test, as one number: bit k stands for k
--   size_of       how many there are
--   lowest_from   which is the lowest
--   class_number  the lowest that passes two tests, else the lowest that passes the first: a class number, by its members
--   Lowest        r is the lowest number that has P
--   Alone         nodes from n on are alone in their class, as those that a state doesn't have
--   CountOf       k of the numbers below n have P
--   ClassNumber   document 02 (b): "the lowest functor node of the class, and the lowest variable where there is none"
--   ClassOf       the class reply: a class number, "and how many nodes the class has"
use Rattle.std.specs.Prelude.{◌≡◌, Bool, ◌&&◌, cond, List, ℕ, zero, suc, ◌+◌, ◌*◌, ◌^◌, ◌≤◌, ◌<◌, length, get_or, eqb, ltb}
use Rattle.graph.specs.State.{State, variable, NodeAt, FunctorAt}
use Rattle.graph.specs.Closure.{Same}
use Rattle.solve_classes.specs.Table.{class}

-- ---- a set of numbers, by a test

abbrev pub in_class : List ℕ → ℕ → ℕ → Bool
in_class t c k = eqb (class t k) c

abbrev pub functor_kind : List ℕ → ℕ → Bool
functor_kind kind k = eqb (get_or kind k 0) 1

abbrev pub digit : Bool → ℕ
digit b = cond b 1 0

unfoldable pub set_of : (ℕ → Bool) → ℕ → ℕ
set_of f zero = 0
set_of f (suc n) = digit (f n) * 2 ^ n + set_of f n

unfoldable pub size_of : (ℕ → Bool) → ℕ → ℕ
size_of f zero = 0
size_of f (suc n) = digit (f n) + size_of f n

-- from i on, among n numbers; i + n where none passes
unfoldable pub lowest_from : (ℕ → Bool) → ℕ → ℕ → ℕ
lowest_from f i zero = i
lowest_from f i (suc n) = cond (f i) i (lowest_from f (suc i) n)

abbrev pub pass_both : (ℕ → Bool) → (ℕ → Bool) → ℕ → Bool
pass_both f g k = f k && g k

-- among 64 numbers; 64 where none passes f
abbrev pub class_number : (ℕ → Bool) → (ℕ → Bool) → ℕ
class_number f g = cond (ltb (lowest_from (pass_both f g) 0 64) 64) (lowest_from (pass_both f g) 0 64) (lowest_from f 0 64)

pub record Lowest (P : ℕ → Type 0) (r : ℕ) : Type 0 where
  pub here : P r
  pub below : (k : ℕ) → k < r → P k → ⊥

-- ---- a node's class in a state

abbrev pub Alone : ℕ → List ℕ → Type 0
Alone n t = (x : ℕ) → n ≤ x → x < 64 → class t x ≡ x

pub data CountOf (P : ℕ → Type 0) : ℕ → ℕ → Type 0 where
  start : CountOf P 0 0
  has : {n k : ℕ} → CountOf P n k → P n → CountOf P (suc n) (suc k)
  lacks : {n k : ℕ} → CountOf P n k → (P n → ⊥) → CountOf P (suc n) k

-- v is a functor node of u's class
abbrev pub FunctorIn : State → ℕ → ℕ → Type 0
FunctorIn s u v = Same s u v × FunctorAt s v

-- v is a variable of u's class
abbrev pub VariableIn : State → ℕ → ℕ → Type 0
VariableIn s u v = Same s u v × NodeAt s v variable

-- r is the number of u's class
pub data ClassNumber (s : State) (u : ℕ) : ℕ → Type 0 where
  typed : {r : ℕ} → Lowest (FunctorIn s u) r → ClassNumber s u r
  untyped : {r : ℕ} → ((v : ℕ) → FunctorIn s u v → ⊥) → Lowest (VariableIn s u) r → ClassNumber s u r

pub record ClassOf (s : State) (u number size : ℕ) : Type 0 where
  pub shows : ClassNumber s u number
  pub count : CountOf (Same s u) (length s.nodes) size
