-- A number below 255, or none, as a byte.
--   byte_of     the number, 255 for none
--   option_of   what a byte stands for
use Rattle.std.specs.Prelude.{◌≡◌, cond, ℕ, eqb, Option, Some, None}
use Rattle.std.proofs.Common.{arith}

abbrev pub byte_of : Option ℕ → ℕ
byte_of None = 255
byte_of (Some x) = x

abbrev pub option_of : ℕ → Option ℕ
option_of b = cond (eqb b 255) None (Some b)

pub byte_back : (b : ℕ) → byte_of (option_of b) ≡ b
byte_back b = grind (arith)
