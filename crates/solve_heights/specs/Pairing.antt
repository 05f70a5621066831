-- Two numbers in one.
--   pairing   different pairs of numbers have different ones: `pairing_unique` (`proofs/PairingLaws.antt`)
use Rattle.std.specs.Prelude.{ℕ, ◌+◌, ◌*◌}

unfoldable pub pairing : ℕ → ℕ → ℕ
pairing x y = (x + y) * (x + y) + x
