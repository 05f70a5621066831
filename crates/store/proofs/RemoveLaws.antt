-- The first place of a name, and what taking that place out of each array does to the list of equations.
use mathlib.Core.Path.{◌≡◌, refl, sym, ap, ◌∙◌}
use mathlib.Core.Bool.{Bool, true, false, cond}
use mathlib.Core.Logic.{⊎_elim}
use mathlib.Core.List.{List, [], ◌∷◌}
use Prim.Native.Nat.{ℕ, zero, suc, ◌+◌, ◌-◌, ◌≤◌, ◌<◌}
use native.Mathlib.Nat.{not-suc-le-zero, le_of_suc-le-suc, eq-or-lt_of_le}
use native.Mathlib.Omega.{arith}
use lib.Dec.{eqb}
use lib.ListN.{length, get_or, set, length-set, get_or-eq_default}
use lib.Seq.{get_or-set_same, get_or-set_other, ext_get_or}
use borrow.Author.Tests.{eq-eqb, ne_eqb, lt-ltb, le-ltb}
use Rattle.std.specs.List.{SameBelow, CopiedTo}
use Rattle.graph.specs.Limits.{equation_limit}
use Rattle.graph.specs.State.{Equation, name_held}
use Rattle.graph.specs.Book.{removed}
use Rattle.base.specs.Tab.{tab}
use Rattle.base.proofs.TabLaws.{tab_length, tab_get_d, tab_same}
use Rattle.store.specs.Views.{equation_at, equations_of}
use Rattle.store.specs.Shape.{EquationsShape}
use Rattle.store.specs.Operations.{First, skip, closed, without_place, Removes}
use Rattle.store.specs.declared.Equations.{Equations}
use Rattle.std.proofs.lemmas.Bool.{cases_eq, cases_lt}

-- ---- one place taken out of an array

pub skip_before : (k i : ℕ) → i < k → skip k i ≡ i
skip_before k i h = rw (lt-ltb i k h)

pub skip_after : (k i : ℕ) → k ≤ i → skip k i ≡ suc i
skip_after k i h = rw (le-ltb i k h)

pub skip_from : (k i : ℕ) → i ≤ skip k i
skip_from k i = ⊎_elim (λ h. omega (arith, skip_before k i h)) (λ h. omega (arith, skip_after k i h)) (cases_lt i k)

pub skip_below : (k i m : ℕ) → k < m → i < m - 1 → skip k i < m
skip_below k i m h g = ⊎_elim (λ p. omega (arith, skip_before k i p)) (λ p. omega (arith, skip_after k i p)) (cases_lt i k)

pub skip_rises : (k i j : ℕ) → i < j → skip k i < skip k j
skip_rises k i j h =
    ⊎_elim
    (λ p. omega (arith, skip_before k i p, skip_from k j))
    (λ p. omega (arith, skip_after k i p, skip_after k j (omega arith)))
    (cases_lt i k)

module _ {A : Type 0} (z : A) (k : ℕ) (l : List A) where
  pub closed_length : length (closed z k l) ≡ length l
  unfolding closed
  closed_length = tab_length (length l) (λ i. get_or l (skip k i) z)

  pub closed_at : (i : ℕ) → get_or (closed z k l) i z ≡ get_or l (skip k i) z
  unfolding closed
  closed_at i =
      ⊎_elim
      (λ h. tab_get_d (length l) (λ j. get_or l (skip k j) z) i z h)
      (λ h.
      get_or-eq_default (closed z k l) z (omega (arith, closed_length))
      ∙ sym (get_or-eq_default l z (omega (arith, skip_from k i))))
      (cases_lt i (length l))

  -- the elements after k copied one place down, and z stored at the last place, m
  pub closed_copy : (r : List A) (m : ℕ) → k < length l → m ≡ length l - 1 → length r ≡ length l → SameBelow l r k
      → CopiedTo l r (k + 1) k (length l - (k + 1)) → set r m z ≡ closed z k l
  closed_copy r m h e s below after =
      ext_get_or z (set r m z) (closed z k l) (length-set r m z ∙ s ∙ sym closed_length)
      (λ i p. at i (omega (arith, p, length-set r m z)) ∙ sym (closed_at i))
    where
      at : (i : ℕ) → i < length l → get_or (set r m z) i z ≡ get_or l (skip k i) z
      at i p =
          ⊎_elim
          (λ q.
          ap (λ (x : ℕ). get_or (set r m z) x z) q
          ∙ get_or-set_same r m z z (omega arith)
          ∙ sym (get_or-eq_default l z (omega (arith, skip_after k i (omega arith)))))
          (λ d. get_or-set_other r m i z z d ∙ ⊎_elim
          (λ q. below i z q ∙ ap (λ (x : ℕ). get_or l x z) (sym (skip_before k i q)))
          (λ q. let w : i < m = omega (arith, lt_of_not i d) in after i z q (omega arith) ∙ ap (λ (x : ℕ). get_or l x z) (omega (arith, skip_after k i q)))
          (cases_lt i k))
          (cases_eq i m)
        where
          lt_of_not : (i : ℕ) → (i ≡ m → ⊥) → i < length l → i < m
          lt_of_not i d p = omega arith

-- ---- names

module _ (n : ℕ) where
  pub held_at : (m : ℕ) (f : ℕ → Equation) (k : ℕ) → k < m → (f k).name ≡ n → name_held n (tab m f) ≡ true
  unfolding tab
  held_at zero f k h e = absurd (not-suc-le-zero h)
  held_at (suc m) f zero h e = rw (eq-eqb _ _ e)
  held_at (suc m) f (suc k) h e = go (eqb (f 0).name n) (held_at m (λ i. f (suc i)) k (le_of_suc-le-suc h) e)
    where
      go : (b : Bool) → name_held n (tab m (λ i. f (suc i))) ≡ true → cond b true (name_held n (tab m (λ i. f (suc i)))) ≡ true
      go true q = refl
      go false q = q

  pub held_not : (m : ℕ) (f : ℕ → Equation) → ((i : ℕ) → i < m → (f i).name ≡ n → ⊥) → name_held n (tab m f) ≡ false
  unfolding tab
  held_not zero f h = refl
  held_not (suc m) f h = rw (ne_eqb _ _ (h 0 (omega arith))) (held_not m (λ i. f (suc i)) (λ i p. h (suc i) (omega arith)))

  -- a name that isn't held: nothing goes
  pub removed_none : (l : List Equation) → name_held n l ≡ false → removed n l ≡ l
  removed_none [] h = refl
  removed_none (e ∷ es) h = go (eqb e.name n) h (removed_none es)
    where
      go : (b : Bool) → cond b true (name_held n es) ≡ false → (name_held n es ≡ false → removed n es ≡ es) → cond b es (e ∷ removed n es) ≡ e ∷ es
      go true h rest = let z : ◌≡◌ {A = Bool} true false = h in cc
      go false h rest = ap (λ (r : List Equation). e ∷ r) (rest h)

  -- the first equation of the name goes, and the later ones close up
  pub removed_at : (m k : ℕ) (f g : ℕ → Equation) → k ≤ m → (f k).name ≡ n → ((i : ℕ) → i < k → (f i).name ≡ n → ⊥)
      → ((i : ℕ) → i < k → g i ≡ f i) → ((i : ℕ) → k ≤ i → i < m → g i ≡ f (suc i)) → tab m g ≡ removed n (tab (suc m) f)
  unfolding tab
  removed_at m zero f g h e b p q = rw (eq-eqb (f 0).name n e) (tab_same m g (λ i. f (suc i)) (λ i l. q i (omega arith) l))
  removed_at zero (suc k) f g h e b p q = absurd (not-suc-le-zero h)
  removed_at (suc m) (suc k) f g h e b p q =
      rw (ne_eqb (f 0).name n (b 0 (omega arith)), p 0 (omega arith))
      (ap (λ (r : List Equation). f 0 ∷ r)
      (removed_at m k (λ i. f (suc i)) (λ i. g (suc i)) (le_of_suc-le-suc h) e (λ i l. b (suc i) (omega arith))
      (λ i l. p (suc i) (omega arith)) (λ i l w. q (suc i) (omega arith) (omega arith))))

-- the first place of a name among those in use tells whether it is held
module _ (e : Equations) (n k : ℕ) (at : First e.name e.count n k) where
  pub held_first : k < e.count → name_held n (equations_of e) ≡ true
  unfolding equations_of
  held_first h = held_at n e.count (equation_at e) k h (at.here h)

  pub held_none : e.count ≤ k → name_held n (equations_of e) ≡ false
  unfolding equations_of
  held_none h = held_not n e.count (equation_at e) (λ i p. at.before i (omega arith))

-- ---- the equation at the first place of the name taken out

pub first_one : (l : List ℕ) (n x j k : ℕ) → First l n x j → First l n x k → j ≡ k
first_one l n x j k a b =
    ⊎_elim
    (λ h. absurd (b.before j h (a.here (omega (arith, b.within)))))
    (λ h. ⊎_elim (λ e. sym e) (λ g. absurd (a.before k g (b.here (omega (arith, a.within))))) (eq-or-lt_of_le h))
    (cases_lt j k)

module _ (e : Equations) (k : ℕ) (room : k < e.count) where
  pub equation_after : (i : ℕ) → equation_at (without_place k e) i ≡ equation_at e (skip k i)
  equation_after i = rw (closed_at 0 k e.name i, closed_at 0 k e.left i, closed_at 0 k e.right i)

  pub shape_after : (m : ℕ) → EquationsShape m e → EquationsShape m (without_place k e)
  shape_after m s = record {
    name_size = closed_length 0 k e.name ∙ s.name_size;
    left_size = closed_length 0 k e.left ∙ s.left_size;
    right_size = closed_length 0 k e.right ∙ s.right_size;
    few = omega (arith, s.few);
    lefts = λ i h. rw closed_at (s.lefts (skip k i) (skip_below k i e.count room h));
    rights = λ i h. rw closed_at (s.rights (skip k i) (skip_below k i e.count room h));
    distinct = λ i j l h q.
        s.distinct (skip k i) (skip k j) (skip_rises k i j l) (skip_below k j e.count room h)
        (sym (closed_at 0 k e.name i) ∙ q ∙ closed_at 0 k e.name j);
    unused_names = λ i h l. closed_at 0 k e.name i ∙ unused e.name s.name_size s.unused_names i h l;
    unused_lefts = λ i h l. closed_at 0 k e.left i ∙ unused e.left s.left_size s.unused_lefts i h l;
    unused_rights = λ i h l. closed_at 0 k e.right i ∙ unused e.right s.right_size s.unused_rights i h l;
  }
    where
      -- past the last equation stood zeros, and the array's end
      unused : (l : List ℕ) → length l ≡ equation_limit → ((i : ℕ) → e.count ≤ i → i < equation_limit → get_or l i 0 ≡ 0)
          → (i : ℕ) → e.count - 1 ≤ i → i < equation_limit → get_or l (skip k i) 0 ≡ 0
      unused l z u i h g =
          let q : skip k i ≡ suc i = skip_after k i (omega arith) in
          ap (λ (j : ℕ). get_or l j 0) q
          ∙ ⊎_elim (λ p. u (suc i) (omega arith) p) (λ p. get_or-eq_default l 0 (omega arith)) (cases_lt (suc i) equation_limit)

module _ (e : Equations) (n k : ℕ) (at : First e.name e.count n k) where
  pub removes : k < e.count → Removes e n true (without_place k e)
  unfolding equations_of
  removes h = record {
    found = sym (held_first e n k at h);
    held = list (e.count - 1) (omega arith);
    exact = λ j f l. ap (λ (i : ℕ). without_place i e) (first_one e.name e.count n k j at f);
    kept = λ no. cc (held_first e n k at h);
    shape = shape_after e k h;
  }
    where
      list : (m : ℕ) → suc m ≡ e.count → tab m (equation_at (without_place k e)) ≡ removed n (equations_of e)
      list m q =
          rw (← q)
          (removed_at n m k (equation_at e) (equation_at (without_place k e)) (omega arith) (at.here h) at.before
          (λ i l. equation_after e k h i ∙ ap (equation_at e) (skip_before k i l))
          (λ i l w. equation_after e k h i ∙ ap (equation_at e) (skip_after k i l)))

  pub missing : e.count ≤ k → Removes e n false e
  missing h = record {
    found = sym (held_none e n k at h);
    held = sym (removed_none n (equations_of e) (held_none e n k at h));
    exact = λ j f l. absurd (omega (arith, first_one e.name e.count n k j at f));
    kept = λ no. refl;
    shape = λ m s. s;
  }
