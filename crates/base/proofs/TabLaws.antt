-- Laws of `tab`: the list of a function's first n values.
use mathlib.Core.Path.{◌≡◌, refl, sym, ap, ap₂, ◌∙◌}
use mathlib.Core.List.{List, [], ◌∷◌, ◌++◌}
use mathlib.Core.Option.{none, some}
use Prim.Native.Nat.{ℕ, zero, suc, ◌+◌, ◌≤◌, ◌<◌}
use native.Mathlib.Nat.{le_of_suc-le-suc, not-suc-le-zero}
use native.Mathlib.Numerals.{add-one}
use native.Mathlib.Omega.{arith}
use lib.ListN.{length, get_or, get_elem?, drop, length-drop}
use borrow.Rule.Slice.PartMut.{mid_of}
use Rattle.std.proofs.lemmas.List.{get_or-take, get_or-drop, length-take-le}
use Rattle.base.specs.Tab.{tab}
use Rattle.base.proofs.ListLaws.{found_lt}

module _ {A : Type 0} where
  pub tab_none : (f : ℕ → A) → tab 0 f ≡ []
  unfolding tab
  tab_none f = refl

  pub tab_first : (n : ℕ) (f : ℕ → A) → tab (suc n) f ≡ f 0 ∷ tab n (λ i. f (suc i))
  unfolding tab
  tab_first n f = refl

  pub tab_length : (n : ℕ) (f : ℕ → A) → length (tab n f) ≡ n
  unfolding tab
  tab_length zero f = refl
  tab_length (suc n) f = ap suc (tab_length n (λ i. f (suc i)))

  pub tab_at : (n : ℕ) (f : ℕ → A) (i : ℕ) → i < n → get_elem? (tab n f) i ≡ some (f i)
  unfolding tab
  tab_at zero f i h = absurd (not-suc-le-zero h)
  tab_at (suc n) f zero h = refl
  tab_at (suc n) f (suc i) h = tab_at n (λ j. f (suc j)) i (le_of_suc-le-suc h)

  pub tab_past : (n : ℕ) (f : ℕ → A) (i : ℕ) → n ≤ i → get_elem? (tab n f) i ≡ none
  unfolding tab
  tab_past zero f i h = refl
  tab_past (suc n) f zero h = absurd (not-suc-le-zero h)
  tab_past (suc n) f (suc i) h = tab_past n (λ j. f (suc j)) i (le_of_suc-le-suc h)

  pub tab_get_d : (n : ℕ) (f : ℕ → A) (i : ℕ) (d : A) → i < n → get_or (tab n f) i d ≡ f i
  unfolding tab
  tab_get_d zero f i d h = absurd (not-suc-le-zero h)
  tab_get_d (suc n) f zero d h = refl
  tab_get_d (suc n) f (suc i) d h = tab_get_d n (λ j. f (suc j)) i d (le_of_suc-le-suc h)

  -- one more at the end
  pub tab_more : (n : ℕ) (f : ℕ → A) → tab (suc n) f ≡ tab n f ++ (f n ∷ [])
  unfolding tab
  tab_more zero f = refl
  tab_more (suc n) f = ap (λ (r : List A). f 0 ∷ r) (tab_more n (λ i. f (suc i)))

  -- equal by values
  pub tab_same : (n : ℕ) (f g : ℕ → A) → ((i : ℕ) → i < n → f i ≡ g i) → tab n f ≡ tab n g
  unfolding tab
  tab_same zero f g h = refl
  tab_same (suc n) f g h =
      ap₂ (λ (x : A) (r : List A). x ∷ r) (h 0 (omega arith)) (tab_same n (λ i. f (suc i)) (λ i. g (suc i)) (λ i k. h (suc i) (omega arith)))

  -- one more at the end, at the code's n + 1
  pub tab_one_more : (n : ℕ) (f : ℕ → A) → tab (n + 1) f ≡ tab n f ++ (f n ∷ [])
  tab_one_more n f = rw add-one (tab_more n f)

  -- one more value at the end of a table, where the others stay
  pub tab_put : (n m : ℕ) (f g : ℕ → A) (a : A) → m ≡ n + 1 → ((i : ℕ) → i < n → g i ≡ f i) → g n ≡ a → tab m g ≡ tab n f ++ (a ∷ [])
  tab_put n m f g a e old new = ap (λ k. tab k g) e ∙ tab_one_more n g ∙ ap₂ (λ x y. x ++ (y ∷ [])) (tab_same n g f old) new

  pub tab_known : (n : ℕ) (f : ℕ → A) (i : ℕ) (a : A) → get_elem? (tab n f) i ≡ some a → (i < n) × (f i ≡ a)
  tab_known n f i a h =
      let l : i < n = omega (arith, found_lt (tab n f) i a h, tab_length n f) in
      let e : some (f i) ≡ some a = sym (tab_at n f i l) ∙ h in
      (l, cc)

  -- a list is the table of any function that has its elements
  pub tab_found : (l : List A) (f : ℕ → A) → ((i : ℕ) (a : A) → get_elem? l i ≡ some a → f i ≡ a) → tab (length l) f ≡ l
  unfolding tab
  tab_found [] f h = refl
  tab_found (x ∷ xs) f h = ap₂ (λ y r. y ∷ r) (h 0 x refl) (tab_found xs (λ i. f (suc i)) (λ i a e. h (suc i) a e))

  pub tab_list : (d : A) (l : List A) → tab (length l) (λ i. get_or l i d) ≡ l
  unfolding tab
  tab_list d [] = refl
  tab_list d (x ∷ xs) = ap (λ (r : List A). x ∷ r) (tab_list d xs)

-- an array is the table of its elements
pub array_tab : (n : ℕ) (l : List ℕ) → length l ≡ n → tab n (λ i. get_or l i 0) ≡ l
array_tab n l e = ap (λ (k : ℕ). tab k (λ i. get_or l i 0)) (sym e) ∙ tab_list 0 l

-- a part of an array
pub mid_tab : (a k : ℕ) (l : List ℕ) → a + k ≤ length l → mid_of a k l ≡ tab k (λ j. get_or l (a + j) 0)
mid_tab a k l h =
    sym (tab_list 0 (mid_of a k l))
    ∙ ap (λ (n : ℕ). tab n (λ i. get_or (mid_of a k l) i 0)) size
    ∙ tab_same k _ _ (λ i g. get_or-take k (drop a l) i 0 g ∙ get_or-drop a l i 0)
  where
    size : length (mid_of a k l) ≡ k
    size = length-take-le k (drop a l) (omega (arith, length-drop a l))
