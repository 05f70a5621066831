-- What `get` of a slice finds is what graph's lookup finds.
use Rattle.std.proofs.Common.{◌≡◌, refl, sym, ap, ◌∙◌, List, [], ◌∷◌, ℕ, zero, suc, ◌≤◌, ◌<◌, length, get_or, Some, None, arith}
use Rattle.std.specs.Prelude.{Option as Answer}
use Rattle.std.proofs.Math.Option.{none, some}
use Rattle.std.specs.Option.{option_copied}
use Rattle.std.specs.Slice.{IsItemAt}
use lib.ListN.{get_elem?}
use denote.Ref.{Bor}
use Rattle.graph.specs.Lines.{place_at}
use Rattle.proof_rules.specs.Rules.{found}

module _ {A : Type 0} where
  past : (xs : List A) (i : ℕ) → length xs ≤ i → get_elem? xs i ≡ none
  past [] i h = refl
  past (x ∷ xs) zero h = absurd (omega arith)
  past (x ∷ xs) (suc i) h = past xs i (omega arith)

  at : (xs : List A) (i : ℕ) (d : A) → i < length xs → get_elem? xs i ≡ some (get_or xs i d)
  at [] i d h = absurd (omega arith)
  at (x ∷ xs) zero d h = refl
  at (x ∷ xs) (suc i) d h = at xs i d (omega arith)

  pub item_found : (xs : List A) (i : ℕ) (r : Answer (Bor A)) → IsItemAt xs i r → found (option_copied r) ≡ get_elem? xs i
  item_found xs i None h = sym (past xs i h.3)
  item_found xs i (Some x) h = ap some h.1 ∙ sym (at xs i x.now h.3.0)

-- places are counted from 1
pub place_found : (xs : List ℕ) (p i : ℕ) (r : Answer (Bor ℕ)) (s : Answer ℕ) → p ≡ suc i → IsItemAt xs i r → s ≡ option_copied r → found s ≡ place_at xs p
place_found xs p i r s e h q = rw (e, q) (item_found xs i r h)
