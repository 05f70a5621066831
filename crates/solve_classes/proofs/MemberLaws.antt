-- A class's members in a table and in a state: how many there are, and which of them is the class number; of an exact table and the
-- state's kinds the two are what the class reply promises, and it promises one of each.
use mathlib.Core.Path.{◌≡◌, refl, sym, ◌∙◌, ap}
use mathlib.Core.Bool.{Bool, true, false, cond}
use mathlib.Core.List.{List}
use mathlib.Core.Logic.{◌⊎◌, inl, inr, ⊎_elim}
use Prim.Native.Nat.{ℕ, zero, suc, ◌+◌, ◌≤◌, ◌<◌}
use native.Mathlib.Nat.{eq-or-lt_of_le, le_antisymm, lt_of_not-le, le_of_suc-le-suc, zero-add}
use native.Mathlib.Numerals.{one-add}
use native.Mathlib.Omega.{arith}
use lib.ListN.{length}
use lib.Dec.{eqb, leb, ltb}
use lib.Bits.{bit_and}
use lib.Count.{ones, count_trailing_zeros, trailing_of_zero}
use borrow.Author.Tests.{eqb-true, eq-eqb, lt-ltb, le-ltb}
use Rattle.std.proofs.lemmas.Bool.{and_from, and_parts, cases_lt, false_from_ne_true}
use Rattle.base.proofs.ListLaws.{found_lt, lt_found}
use Rattle.graph.specs.State.{Node, variable, functor, State, IsNode, FunctorAt, NodeAt}
use Rattle.graph.specs.Closure.{Same, reflexivity}
use Rattle.solve_classes.specs.Table.{class, Table, Fresh, Merged}
use Rattle.solve_classes.specs.Exact.{Exact}
use Rattle.solve_classes.specs.Members.{in_class, functor_kind, digit, set_of, size_of, lowest_from, pass_both, class_number, Lowest, Alone, CountOf, start, has, lacks, FunctorIn, VariableIn, ClassNumber, typed, untyped, ClassOf}
use Rattle.solve_classes.proofs.MergeLaws.{cond_cases}
use Rattle.solve_classes.proofs.SetLaws.{set_size, set_empty, set_zeros, set_both, lowest_finds}

-- ---- counting

-- a test that decides P counts it
pub count_test : (P : ℕ → Type 0) (f : ℕ → Bool) (n : ℕ) → ((k : ℕ) → k < n → f k ≡ true → P k) → ((k : ℕ) → k < n → f k ≡ false → P k → ⊥)
    → CountOf P n (size_of f n)
unfolding size_of
count_test P f zero in_p out-p = start
count_test P f (suc n) in_p out-p = go (f n) refl (count_test P f n (λ k h. in_p k (omega arith)) (λ k h. out-p k (omega arith)))
  where
    go : (b : Bool) → f n ≡ b → CountOf P n (size_of f n) → CountOf P (suc n) (digit b + size_of f n)
    go true e c = rw one-add (has c (in_p n (omega arith) e))
    go false e c = rw zero-add (lacks c (out-p n (omega arith) e))

pub count_unique : {P : ℕ → Type 0} {n j k : ℕ} → CountOf P n j → CountOf P n k → j ≡ k
count_unique start start = refl
count_unique (has c p) (has d q) = ap suc (count_unique c d)
count_unique (has c p) (lacks d q) = absurd (q p)
count_unique (lacks c p) (has d q) = absurd (p q)
count_unique (lacks c p) (lacks d q) = count_unique c d

-- numbers that don't pass add nothing
pub size_short : (f : ℕ → Bool) (n m : ℕ) → n ≤ m → ((k : ℕ) → n ≤ k → k < m → f k ≡ false) → size_of f m ≡ size_of f n
unfolding size_of
size_short f n zero l h = let e : ◌≡◌ {A = ℕ} 0 n = omega arith in ap (size_of f) e
size_short f n (suc m) l h =
    ⊎_elim
    (λ e. ap (size_of f) (sym e))
    (λ k.
    let e : f m ≡ false = h m (omega arith) (omega arith) in
    rw (e, zero-add) (size_short f n m (omega arith) (λ i a b. h i a (omega arith))))
    (eq-or-lt_of_le l)

pub size_most : (f : ℕ → Bool) (n : ℕ) → size_of f n ≤ n
unfolding size_of
size_most f zero = omega arith
size_most f (suc n) = omega (arith, one (f n), size_most f n)
  where
    one : (b : Bool) → digit b ≤ 1
    one true = omega arith
    one false = omega arith

-- ---- the class reply promises one number and one size

-- one number has P and no lower one
lowest_unique : {P : ℕ → Type 0} {l m : ℕ} → Lowest P l → Lowest P m → l ≡ m
lowest_unique {P} p q = le_antisymm (at_most p q) (at_most q p)
  where
    at_most : {l m : ℕ} → Lowest P l → Lowest P m → l ≤ m
    at_most {l} {m} p q = le_of_suc-le-suc (lt_of_not-le (λ h. p.below m h q.here))

number_unique : {s : State} {u l m : ℕ} → ClassNumber s u l → ClassNumber s u m → l ≡ m
number_unique (typed p) (typed q) = lowest_unique p q
number_unique (typed p) (untyped z q) = absurd (z _ p.here)
number_unique (untyped z p) (typed q) = absurd (z _ q.here)
number_unique (untyped z p) (untyped y q) = lowest_unique p q

pub class_unique : {s : State} {u l m i j : ℕ} → ClassOf s u l i → ClassOf s u m j → (l ≡ m) × (i ≡ j)
class_unique p q = (number_unique p.shows q.shows, count_unique p.count q.count)

-- ---- members as 64-bit sets: a those that pass f, b those that pass g

pub ones_size : (f : ℕ → Bool) {a : ℕ} → a ≡ set_of f 64 → ones a ≡ size_of f 64
ones_size f e = rw e (set_size f 64)

module _ (f g : ℕ → Bool) {a b : ℕ} (e : a ≡ set_of f 64) (d : b ≡ set_of g 64) where
  shared : bit_and a b ≡ set_of (pass_both f g) 64
  shared = rw (e, d) (set_both f g 64)

  -- where some number is in both sets the lowest of those, else the lowest of a
  pub zeros_number : {r : ℕ} → ((bit_and a b ≡ 0) × (r ≡ a)) ⊎ ((bit_and a b ≡ 0 → ⊥) × (r ≡ bit_and a b)) → count_trailing_zeros 64 r ≡ class_number f g
  zeros_number (inl p) =
      let z : lowest_from (pass_both f g) 0 64 ≡ 64 = sym (set_zeros (pass_both f g) 64) ∙ ap (count_trailing_zeros 64) (sym shared ∙ p.0) ∙ trailing_of_zero 64 in
      rw (le-ltb (lowest_from (pass_both f g) 0 64) 64 (omega (arith, z)), p.1, e) (set_zeros f 64)
  zeros_number (inr p) =
      ⊎_elim
      (λ q. rw (lt-ltb (lowest_from (pass_both f g) 0 64) 64 q.0, p.1, shared) (set_zeros (pass_both f g) 64))
      (λ q. absurd (p.0 (shared ∙ set_empty (pass_both f g) 64 q.1)))
      (lowest_finds (pass_both f g) 64)

pub number_small : (f g : ℕ → Bool) → class_number f g ≤ 64
number_small f g = go (ltb (lowest_from (pass_both f g) 0 64) 64)
  where
    small : (h : ℕ → Bool) → lowest_from h 0 64 ≤ 64
    small h = ⊎_elim (λ p. omega (arith, p.0)) (λ p. omega (arith, p.0)) (lowest_finds h 64)

    go : (b : Bool) → cond b (lowest_from (pass_both f g) 0 64) (lowest_from f 0 64) ≤ 64
    go true = small (pass_both f g)
    go false = small f

-- ---- nodes that the state doesn't have

pub alone_fresh : (n : ℕ) (t : List ℕ) → Fresh t → Alone n t
alone_fresh n t F x l h = F.alone x h

-- a merge of known nodes leaves the others alone
pub alone_merged : (n : ℕ) (t r : List ℕ) (a b : ℕ) → n ≤ 64 → Table t → a < n → b < n → Merged t a b r → Alone n t → Alone n r
alone_merged n t r a b few T ha hb m A x l h =
    let cx : class t x ≡ x = A x l h in
    let ca : class t a ≤ a = T.low a (omega arith) in
    let cb : class t b ≤ b = T.low b (omega arith) in
    let kept : (gone keep : ℕ) → gone < n → cond (eqb (class t x) gone) keep (class t x) ≡ x
    = λ gone keep g. ⊎_elim (λ p. absurd (omega (arith, p.0))) (λ p. p.1 ∙ cx) (cond_cases (class t x) gone keep) in
    m.entry x h ∙ both (leb (class t a) (class t b)) (kept (class t b) (class t a) (omega arith)) (kept (class t a) (class t b) (omega arith))
  where
    both : {p q : ℕ} (c : Bool) → p ≡ x → q ≡ x → cond c p q ≡ x
    both true e d = e
    both false e d = d

-- ---- a class of a state: f tells its nodes, g the functor nodes

module _ (s : State) (u : ℕ) (k : IsNode s u) (few : length s.nodes ≤ 64) (f g : ℕ → Bool)
    (inside : (v : ℕ) → v < 64 → f v ≡ true → IsNode s v × Same s u v) (member : (v : ℕ) → Same s u v → f v ≡ true)
    (typed_only : (v : ℕ) → IsNode s v → g v ≡ true → FunctorAt s v) (typed_all : (v : ℕ) → FunctorAt s v → g v ≡ true) where
  outside : (v : ℕ) → length s.nodes ≤ v → v < 64 → f v ≡ false
  outside v l h = false_from_ne_true (f v) (λ e. omega (arith, (inside v h e).0))

  count_by : CountOf (Same s u) (length s.nodes) (size_of f 64)
  count_by =
      rw (size_short f (length s.nodes) 64 few outside)
      (count_test (Same s u) f (length s.nodes) (λ v l e. (inside v (omega arith) e).1) (λ v l e p. cc (member v p)))

  functor_member : (v : ℕ) → FunctorIn s u v → pass_both f g v ≡ true
  functor_member v p = and_from (f v) (g v) (member v p.0) (typed_all v p.1)

  functor_inside : (v : ℕ) → v < 64 → pass_both f g v ≡ true → FunctorIn s u v
  functor_inside v h e = let p = inside v h (and_parts _ _ e).0 in (p.1, typed_only v p.0 (and_parts _ _ e).1)

  -- in a class without functor nodes each node is a variable
  variable_inside : ((v : ℕ) → FunctorIn s u v → ⊥) → (v : ℕ) → v < 64 → f v ≡ true → VariableIn s u v
  variable_inside z v h e = let p = inside v h e in let n = lt_found s.nodes v p.0 in (p.1, go n.0 n.1)
    where
      go : (n : Node) → NodeAt s v n → NodeAt s v variable
      go variable q = q
      go (functor x cs) q = absurd (z v ((inside v h e).1, (x, cs, q)))

  -- so its lowest node is its lowest variable
  lowest_variable : ((v : ℕ) → FunctorIn s u v → ⊥) → ClassNumber s u (lowest_from f 0 64)
  lowest_variable z =
      ⊎_elim
      (λ p. untyped z (record { here = variable_inside z _ p.0 p.1.here; below = λ v l q. p.1.below v l (member v q.0) }))
      (λ p. cc (member u (reflexivity k), p.1 u (omega arith)))
      (lowest_finds f 64)

  number_by : ClassNumber s u (class_number f g)
  number_by =
      ⊎_elim
      (λ p. rw (lt-ltb (lowest_from (pass_both f g) 0 64) 64 p.0) (typed (record { here = functor_inside _ p.0 p.1.here; below = λ v l q. p.1.below v l (functor_member v q) })))
      (λ p. rw (le-ltb (lowest_from (pass_both f g) 0 64) 64 (omega (arith, p.0))) (lowest_variable (λ v q. cc (functor_member v q, p.1 v (small v q)))))
      (lowest_finds (pass_both f g) 64)
    where
      small : (v : ℕ) → FunctorIn s u v → v < 64
      small v q = omega (arith, few, found_lt s.nodes v (functor q.1.0 q.1.1) q.1.2)

  pub class_by : ClassOf s u (class_number f g) (size_of f 64)
  class_by = record { shows = number_by; count = count_by }

-- what `class_figures` gives of a known node's root is what the class reply promises
module _ (s : State) (t : List ℕ) (u : ℕ) (T : Table t) (X : Exact s t) (few : length s.nodes ≤ 64) (A : Alone (length s.nodes) t) (k : IsNode s u)
    (kind : List ℕ) (typed_only : (v : ℕ) → IsNode s v → functor_kind kind v ≡ true → FunctorAt s v) (typed_all : (v : ℕ) → FunctorAt s v → functor_kind kind v ≡ true) where
  table_inside : (v : ℕ) → v < 64 → in_class t (class t u) v ≡ true → IsNode s v × Same s u v
  table_inside v h e =
      let n : IsNode s v = ⊎_elim (λ l. l) (λ l. absurd (omega (arith, A v l h, T.low u (omega arith), eqb-true (class t v) (class t u) e))) (cases_lt v (length s.nodes)) in
      (n, X.only u v k n (sym (eqb-true (class t v) (class t u) e)))

  pub class_of : ClassOf s u (class_number (in_class t (class t u)) (functor_kind kind)) (size_of (in_class t (class t u)) 64)
  class_of = class_by s u k few (in_class t (class t u)) (functor_kind kind) table_inside (λ v p. eq-eqb (class t v) (class t u) (sym (X.has p))) typed_only typed_all
