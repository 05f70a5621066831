-- `tab n f`: the list of f's values at 0 to n - 1. How an array, or several side by side, is read as a list.
-- Its laws stand in proofs/TabLaws.
use Rattle.std.specs.Prelude.{List, [], ◌∷◌, ℕ, zero, suc}

unfoldable pub tab : {A : Type 0} → ℕ → (ℕ → A) → List A
tab zero f = []
tab (suc n) f = f 0 ∷ tab n (λ i. f (suc i))
