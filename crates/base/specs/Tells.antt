-- What a test's reply tells. Its laws stand in proofs/TellLaws.
--   Tells   true says that the fact holds, false that it doesn't
--   Each    a fact of every number below n
use Rattle.std.specs.Prelude.{◌≡◌, Bool, true, false, ℕ, ◌<◌}

pub record Tells (P : Type 0) (r : Bool) : Type 0 where
  pub holds : r ≡ true → P
  pub fails : r ≡ false → P → ⊥

abbrev pub Each : (ℕ → Type 0) → ℕ → Type 0
Each P n = (i : ℕ) → i < n → P i
