-- The cells of a bounded list, after each change of them.
use Rattle.std.proofs.Common.{◌≡◌, ◌∙◌, ap, ap₂, List, ℕ, ◌+◌, ◌-◌, ◌<◌, ◌≤◌, length, take, get_or, slice_set, arith}
use Rattle.std.specs.List.{remove, copy_within}
use Rattle.std.proofs.lemmas.List.{places, same_lists, length-set, get_or-set_same, get_or-set_other}
use Rattle.std.proofs.lemmas.Bool.{cases_eq}
use mathlib.Core.Logic.{⊎_elim}
use Rattle.bounded_list.specs.Bounded.{Filled}

module _ {T : Type 0} {n : ℕ} where
  -- what the cells behind the first k hold
  pub filled_at : {k : ℕ} {cells : List T} {b : T} → Filled n k cells b → (i : ℕ) (d : T) → k ≤ i → i < n → get_or cells i d ≡ b
  filled_at {k} {cells} {b} F i d l m = ap (λ xs. get_or xs i d) F.blanks ∙ grind (arith, places, F.fits, F.size)

  pub filled : (k : ℕ) (cells : List T) (b : T) → k ≤ n → length cells ≡ n
      → ((i : ℕ) (d : T) → k ≤ i → i < n → get_or cells i d ≡ b) → Filled n k cells b
  filled k cells b l e at = record {
    fits = l;
    size = e;
    blanks = same_lists _ _ (grind (arith, places, l, e)) (λ i d h. grind (arith, places, at i d, l, e, h));
  }

module _ {T : Type 0} {n k : ℕ} {cells : List T} {b : T} (F : Filled n k cells b) where
  pub pushed : (x : T) → k < n → Filled n (k + 1) (slice_set cells k x) b
  pushed x h =
      filled (k + 1) _ b (omega arith) (length-set cells k x ∙ F.size)
      (λ i d l m. get_or-set_other cells k i x d (omega arith) ∙ filled_at F i d (omega arith) m)

  pub popped : 0 < k → Filled n (k - 1) (slice_set cells (k - 1) b) b
  popped h =
      filled (k - 1) _ b (omega (arith, F.fits)) (length-set cells (k - 1) b ∙ F.size)
      (λ i d l m. ⊎_elim
      (λ q. ap (λ j. get_or (slice_set cells (k - 1) b) j d) q ∙ get_or-set_same cells (k - 1) b d (omega (arith, F.fits, F.size)))
      (λ q. get_or-set_other cells (k - 1) i b d q ∙ filled_at F i d (omega (arith, q)) m)
      (cases_eq i (k - 1)))

  module _ (i : ℕ) (h : i < k) where
    pub moved : Filled n k (copy_within cells (i + 1) k i) b
    moved =
        filled k _ b F.fits (grind (arith, places, F.size, F.fits, h))
        (λ j d l m. grind (arith, places, filled_at F j d, F.size, F.fits, h, l, m))

    -- without its last, the part in use is what is left of it without place i
    pub moved_items : (xs : List T) → xs ≡ take k (copy_within cells (i + 1) k i) → take (length xs - 1) xs ≡ remove (take k cells) i
    moved_items xs e =
        let size : length xs ≡ k = ap length e ∙ grind (arith, places, F.size, F.fits, h) in
        ap₂ (λ m l. take (m - 1) l) size e
        ∙ same_lists _ _ (grind (arith, places, F.size, F.fits, h)) (λ j d l. grind (arith, places, F.size, F.fits, h, l))
