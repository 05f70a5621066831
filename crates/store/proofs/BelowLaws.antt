-- The test that each of a list's numbers is below a bound.
use mathlib.Core.Path.{◌≡◌, refl}
use mathlib.Core.Bool.{true}
use mathlib.Core.List.{List}
use Prim.Native.Nat.{ℕ, ◌≤◌, ◌<◌}
use native.Mathlib.Omega.{arith}
use lib.ListN.{length, get_or}
use lib.Dec.{ltb}
use borrow.Author.Tests.{lt-ltb, ltb-true}
use Rattle.std.proofs.lemmas.List.Recursion.{and_at, and_from_places}
use Rattle.graph.specs.Book.{all_below}

pub below_each : (n : ℕ) (l : List ℕ) → all_below n l ≡ true → (i : ℕ) → i < length l → get_or l i 0 < n
below_each n l a i h = ltb-true _ n (and_at (all_below n) (λ x. ltb x n) refl (λ x xs. refl) l i 0 h a)

-- what is below n is below more
pub below_wider : (n m : ℕ) (l : List ℕ) → n ≤ m → all_below n l ≡ true → all_below m l ≡ true
below_wider n m l h a =
    and_from_places (all_below m) (λ x. ltb x m) refl (λ x xs. refl) l 0 (λ i g. lt-ltb _ m (omega (arith, below_each n l a i g)))
