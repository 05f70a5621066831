-- Class tables: 64 numbers, the entry of a node being the root of its class, which is the lowest node in it. A root stands for a class
-- inside one call; the class number of the reply is another (`ClassNumber` in specs/Members).
--   class         the entry of a node
--   Table         each entry is a root: the lowest node of its class
--   merged_class  a node's entry once the classes of a and b are one, under the lower root
--   Merged        what a merge gives: exact entry by entry, and what it does to "in one class"
--   member_at     how many nodes a class has is a sum of these
--   class_count   the number of classes, which falls with each merge of two classes
use Rattle.std.specs.Prelude.{◌≡◌, List, cond, ◌⊎◌, ℕ, ◌≤◌, ◌<◌, length, get_or, eqb, leb}
use Rattle.base.specs.Sum.{sum_to}

abbrev pub class : List ℕ → ℕ → ℕ
class t x = get_or t x 0

pub record Table (t : List ℕ) : Type 0 where
  pub size : length t ≡ 64
  pub low : (i : ℕ) → i < 64 → class t i ≤ i
  pub fixed : (i : ℕ) → i < 64 → class t (class t i) ≡ class t i

-- the table of no merges: each node alone
pub record Fresh (t : List ℕ) : Type 0 where
  pub table : Table t
  pub alone : (i : ℕ) → i < 64 → class t i ≡ i

-- every entry equal to gone becomes keep
pub record Relabelled (t : List ℕ) (keep gone : ℕ) (r : List ℕ) : Type 0 where
  pub size : length r ≡ 64
  pub entry : (i : ℕ) → i < 64 → class r i ≡ cond (eqb (class t i) gone) keep (class t i)

-- x and y are in one class of t, or one is with a and the other with b
abbrev pub JoinedBy : List ℕ → ℕ → ℕ → ℕ → ℕ → Type 0
JoinedBy t a b x y =
    (class t x ≡ class t y) ⊎ (((class t x ≡ class t a) × (class t y ≡ class t b)) ⊎ ((class t x ≡ class t b) × (class t y ≡ class t a)))

abbrev pub merged_class : (ℕ → ℕ) → ℕ → ℕ → ℕ → ℕ
merged_class c a b x = cond (leb (c a) (c b)) (cond (eqb (c x) (c b)) (c a) (c x)) (cond (eqb (c x) (c a)) (c b) (c x))

pub record Merged (t : List ℕ) (a b : ℕ) (r : List ℕ) : Type 0 where
  pub table : Table r
  pub entry : (x : ℕ) → x < 64 → class r x ≡ merged_class (class t) a b x
  pub to : (x y : ℕ) → x < 64 → y < 64 → class r x ≡ class r y → JoinedBy t a b x y
  pub from : (x y : ℕ) → x < 64 → y < 64 → JoinedBy t a b x y → class r x ≡ class r y

-- 1 where node i is in class c
abbrev pub member_at : List ℕ → ℕ → ℕ → ℕ
member_at t c i = cond (eqb (class t i) c) 1 0

-- 1 where node i is the lowest of its class
abbrev pub root : List ℕ → ℕ → ℕ
root t i = cond (eqb (class t i) i) 1 0

abbrev pub class_count : List ℕ → ℕ
class_count t = sum_to (root t) 64
