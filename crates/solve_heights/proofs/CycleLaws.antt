-- Where each of finitely many nodes has one below it among them, one lies below itself: the top node is struck out, and who led to it
-- leads to what it leads to.
use mathlib.Core.Path.{◌≡◌, sym, ◌∙◌}
use mathlib.Core.Logic.{◌⊎◌, inl, inr, ⊎_elim}
use Prim.Native.Nat.{ℕ, zero, suc, ◌<◌}
use native.Mathlib.Nat.{le_of_suc-le-suc, eq-or-lt_of_le}
use native.Mathlib.Omega.{arith}
use Rattle.graph.specs.State.{State}
use Rattle.graph.specs.Closure.{Below, below_below, Cycle}
use Rattle.std.proofs.lemmas.Bool.{cases_eq}

-- a node of P below x, or a cycle
abbrev pub Next : State → (ℕ → Type 0) → ℕ → Type 0
Next s P x = Cycle s ⊎ ((y : ℕ) × (P y × Below s x y))

module _ (s : State) where
  closes : (x y : ℕ) → x ≡ y → Below s x y → Cycle s
  closes x y e b = record { u = x; back = rw (← e) at b }

  -- node k is passed over
  over : (P : ℕ → Type 0) (k : ℕ) → ((x : ℕ) → P x → Next s P x) → (x : ℕ) → P x → Next s (λ y. P y × (y ≡ k → ⊥)) x
  over P k step x p = ⊎_elim (λ c. inl c) (λ n. first n.0 n.1.0 n.1.1) (step x p)
    where
      second : (y : ℕ) → y ≡ k → Below s x y → (z : ℕ) → P z → Below s y z → Next s (λ y. P y × (y ≡ k → ⊥)) x
      second y e b z q c =
          ⊎_elim
          (λ d. inl (closes y z (e ∙ sym d) c))
          (λ d. inr (z, ((q, d), below_below b c)))
          (cases_eq z k)

      first : (y : ℕ) → P y → Below s x y → Next s (λ y. P y × (y ≡ k → ⊥)) x
      first y q b =
          ⊎_elim
          (λ e. ⊎_elim (λ c. inl c) (λ n. second y e b n.0 n.1.0 n.1.1) (step y q))
          (λ d. inr (y, ((q, d), b)))
          (cases_eq y k)

  pub cycle_among : (n : ℕ) (P : ℕ → Type 0) → ((x : ℕ) → P x → x < n) → ((x : ℕ) → P x → Next s P x) → (x : ℕ) → P x → Cycle s
  cycle_among zero P bound step x p = absurd (omega (arith, bound x p))
  cycle_among (suc n) P bound step x p =
      ⊎_elim
      (λ c. c)
      (λ m.
      cycle_among n (λ y. P y × (y ≡ n → ⊥)) (λ y q. fewer y (bound y q.0) q.1) (λ y q. over P n step y q.0) m.0 m.1.0)
      (over P n step x p)
    where
      fewer : (y : ℕ) → y < suc n → (y ≡ n → ⊥) → y < n
      fewer y l d = ⊎_elim (λ e. absurd (d e)) (λ e. e) (eq-or-lt_of_le (le_of_suc-le-suc l))
