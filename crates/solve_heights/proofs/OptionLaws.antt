-- A value, or none: which it is.
use mathlib.Core.Path.{◌≡◌, refl}
use mathlib.Core.Logic.{◌⊎◌, inl, inr}
use Rattle.std.specs.Prelude.{Option, Some, None}
use Rattle.std.specs.Option.{IsSome, IsNone}

module _ {A : Type 0} where
  pub none_or_some : (o : Option A) → (o ≡ None) ⊎ ((x : A) × (o ≡ Some x))
  none_or_some None = inl refl
  none_or_some (Some x) = inr (x, refl)

  pub some_of : (o : Option A) → IsSome o → (x : A) × (o ≡ Some x)
  some_of None h = cc
  some_of (Some x) h = (x, refl)

  pub none_of : (o : Option A) → IsNone o → o ≡ None
  none_of None h = refl
  none_of (Some x) h = cc
