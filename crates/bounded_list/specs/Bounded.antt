-- What a contract sees of a bounded list, and what is true of its fields.
--   Bounded       its values in order, and the blank that stands in the unused places
--   holding       the list of these values, with that blank
--   Filled        the first k of n cells are used, and the others are blank
--   cells_back, count_back   so the values and the blank give the fields back
use Rattle.std.specs.Prelude.{◌≡◌, List, ◌++◌, ℕ, ◌-◌, ◌≤◌, length, take, replicate, refl}
use Rattle.std.specs.Coded.{Coded, code_by, coded_list, coded×}
use Rattle.std.proofs.Common.{sym, ◌∙◌, ap, subst}
use Rattle.std.proofs.lemmas.List.{length-take-le}

pub record Bounded (T : Type 0) : Type 0 where
  pub items : List T
  pub blank : T

-- a list is stored as the pair of its fields
abbrev pub bounded_code : {T : Type 0} → Coded T → Coded (Bounded T)
bounded_code {T} code =
    code_by (List T × T) (coded× (coded_list code) code) (λ v. (v.items, v.blank)) (λ p. record { items = p.0; blank = p.1 }) (λ _. refl)

abbrev pub holding : {T : Type 0} → List T → T → Bounded T
holding xs b = record { items = xs; blank = b }

pub record Filled {T : Type 0} (n k : ℕ) (cells : List T) (blank : T) : Type 0 where
  pub fits : k ≤ n
  pub size : length cells ≡ n
  pub blanks : cells ≡ take k cells ++ replicate (n - k) blank

module _ {T : Type 0} {n k : ℕ} {cells : List T} {b : T} (F : Filled n k cells b) where
  pub count_back : length (take k cells) ≡ k
  count_back = length-take-le k cells (subst (λ m. k ≤ m) (sym F.size) F.fits)

  pub cells_back : take k cells ++ replicate (n - length (take k cells)) b ≡ cells
  cells_back = ap (λ j. take k cells ++ replicate (n - j) b) count_back ∙ sym F.blanks
