-- An entry of a class table is a node's number.
use Prim.Native.Nat.{ℕ, ◌<◌}
use native.Mathlib.Omega.{arith}
use mathlib.Core.List.{List}
use Rattle.solve_classes.specs.Table.{class, Table}

pub class_small : {t : List ℕ} → Table t → (x : ℕ) → x < 64 → class t x < 64
class_small T x h = omega (arith, T.low x h)
