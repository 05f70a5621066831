-- Replies that tell a fact: of comparisons, of two facts together, of one fact more.
use mathlib.Core.Path.{◌≡◌, refl}
use mathlib.Core.Bool.{Bool, true, false, ◌&&◌}
use Prim.Native.Nat.{ℕ, ◌+◌, ◌≤◌, ◌<◌}
use native.Mathlib.Omega.{arith}
use lib.Dec.{eqb, ltb, leb}
use borrow.Author.Tests.{eqb-true, eqb-false, ltb-true, ltb-false, leb-true, leb-false}
use borrow.Author.Count.{below_none, below_more}
use Rattle.base.specs.Tells.{Tells, Each}

module _ {P : Type 0} where
  pub tells_yes : P → Tells P true
  tells_yes p = record { holds = λ e. p; fails = λ e q. cc }

  pub tells_not : (P → ⊥) → Tells P false
  tells_not n = record { holds = λ e. cc; fails = λ e. n }

  -- the same fact in other words
  pub tells_same : {Q : Type 0} {r : Bool} → (P → Q) → (Q → P) → Tells P r → Tells Q r
  tells_same f g t = record { holds = λ e. f (t.holds e); fails = λ e q. t.fails e (g q) }

-- what is so, is told
pub tells_true : {P : Type 0} {r : Bool} → Tells P r → P → r ≡ true
tells_true {r = true} t p = refl
tells_true {r = false} t p = absurd (t.fails refl p)

-- the same fact at an equal number
pub tells_at : (P : ℕ → Type 0) {k n : ℕ} {r : Bool} → Tells (P k) r → k ≡ n → Tells (P n) r
tells_at P t e = rw (← e) t

pub tells_eq : (a b : ℕ) → Tells (a ≡ b) (eqb a b)
tells_eq a b = record { holds = eqb-true a b; fails = eqb-false a b }

pub tells_lt : (a b : ℕ) → Tells (a < b) (ltb a b)
tells_lt a b = record { holds = ltb-true a b; fails = λ e h. omega (arith, ltb-false a b e) }

pub tells_le : (a b : ℕ) → Tells (a ≤ b) (leb a b)
tells_le a b = record { holds = leb-true a b; fails = λ e h. omega (arith, leb-false a b e) }

pub tells_both : {P Q : Type 0} {a b : Bool} → Tells P a → Tells Q b → Tells (P × Q) (a && b)
tells_both {a = true} t u = record { holds = λ e. (t.holds refl, u.holds e); fails = λ e q. u.fails e q.1 }
tells_both {a = false} t u = record { holds = λ e. cc; fails = λ e q. t.fails refl q.0 }

-- ---- every number below n

module _ (P : ℕ → Type 0) where
  pub each_none : Each P 0
  each_none = below_none P

  pub each_more : (i : ℕ) → Each P i → P i → Each P (i + 1)
  each_more i h p = below_more P i h p

  pub tells_none : Tells (Each P 0) true
  tells_none = tells_yes each_none

  pub tells_more : (i : ℕ) {a b : Bool} → Tells (Each P i) a → Tells (P i) b → Tells (Each P (i + 1)) (a && b)
  tells_more i t u = tells_same (λ q. each_more i q.0 q.1) (λ q. (λ j l. q j (omega arith), q i (omega arith))) (tells_both t u)
