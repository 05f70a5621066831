-- Laws of tests.
use mathlib.Core.Path.{◌≡◌}
use mathlib.Core.Bool.{Bool, true, false, not, ◌||◌}

-- where a test passed, what it leads to holds
pub then_true : (s t : Bool) → not s || t ≡ true → s ≡ true → t ≡ true
then_true true t e p = e
then_true false t e p = cc
