-- Known nodes: the ends of an offered equation, and what a limit makes of them.
use mathlib.Core.Path.{◌≡◌, refl}
use mathlib.Core.Bool.{true}
use mathlib.Core.Option.{Option, none, some}
use Prim.Native.Nat.{ℕ, ◌≤◌, ◌<◌}
use native.Mathlib.Omega.{arith}
use borrow.Author.Tests.{lt-ltb, ltb-true}
use Rattle.std.proofs.lemmas.Bool.{and_parts}
use Rattle.graph.specs.State.{Equation}
use Rattle.proof_rules.specs.Rules.{both_below, offer_below}

both_ends : (n u v : ℕ) → both_below n u v ≡ true → (u < n) × (v < n)
both_ends n u v h = let p = and_parts _ _ h in (ltb-true u n p.0, ltb-true v n p.1)

-- what is known among n nodes is known among more
pub offer_within : (n m : ℕ) → n ≤ m → (o : Option Equation) → offer_below n o ≡ true → offer_below m o ≡ true
offer_within n m l none h = refl
offer_within n m l (some e) h =
    let w = both_ends n e.left e.right h in
    rw (lt-ltb e.left m (omega arith), lt-ltb e.right m (omega arith))
