-- Where the peel ends: every class went, or no class went in a whole pass.
use mathlib.Core.Path.{◌≡◌, refl}
use mathlib.Core.Bool.{Bool, true, false}
use mathlib.Core.Logic.{⊎_elim}
use mathlib.Core.List.{List}
use Prim.Native.Nat.{ℕ, ◌-◌, ◌≤◌, ◌<◌}
use native.Mathlib.Omega.{arith}
use Rattle.std.specs.Prelude.{None}
use Rattle.std.proofs.lemmas.Bool.{cases_eq}
use Rattle.base.proofs.SumLaws.{sum_at, sum_some}
use Rattle.store.specs.declared.Terms.{Terms}
use Rattle.solve_classes.specs.Table.{class}
use Rattle.solve_heights.specs.Nodes.{IsClass}
use Rattle.solve_heights.specs.Peel.{height_at, Blocked, Peeled}
use Rattle.solve_heights.specs.Passes.{pending_at, wait_at, Peeling, Released}
use Rattle.solve_heights.specs.declared.Peeler.{Peeler}
use Rattle.solve_heights.proofs.SummandLaws.{wait_in, wait_out, wait_done, is_class, none_left}

-- where every class went, no node is pending
pub all_released : (g : Terms) (t : List ℕ) (p : Peeler) → Peeling g t p → p.total ≤ p.went
    → (u : ℕ) → u < g.count → Released g t p u
all_released g t p P l u k d =
    let C = is_class g t P.table P.formed u k in
    let w = none_left g t p.height (omega (arith, P.count)) (class t u) C in
    absurd (omega (
      arith,
      P.gone_waits (class t u) w.0 (omega (arith, C.known, P.formed.most)) w.1,
      P.waits (class t u) (omega (arith, C.known, P.formed.most)),
      sum_at (wait_at t p.pending (class t u)) g.count u k,
      wait_in t p.pending (class t u) u refl d,
    ))

module _ (g : Terms) (t : List ℕ) (p : Peeler) (P : Peeling g t p) (R : (u : ℕ) → u < g.count → Released g t p u) where
  -- what is left is blocked
  blocked : (c : ℕ) → IsClass g t c → height_at p.height c ≡ None → Blocked g t p.height c
  blocked c C e =
      let W = sum_some (wait_at t p.pending c) g.count (omega (arith, P.waits c (omega (arith, C.known, P.formed.most)), P.left_waits c C e)) in
      ⊎_elim
      (λ m. record { node = W.0; inside = m; stuck = R W.0 W.1.0 (pending W.0 W.1.1) })
      (λ m. absurd (omega (arith, W.1.1, wait_out t p.pending c W.0 m)))
      (cases_eq (class t W.0) c)
    where
      pending : (v : ℕ) → 0 < wait_at t p.pending c v → pending_at p.pending v ≡ true
      pending v l = go (pending_at p.pending v) refl
        where
          go : (b : Bool) → pending_at p.pending v ≡ b → pending_at p.pending v ≡ true
          go true q = q
          go false q = absurd (omega (arith, l, wait_done t p.pending c v q))

  pub peel_ends : (n : ℕ) → n ≡ p.total - p.went → Peeled g t (record { height = p.height; left = n })
  peel_ends n e =
      record {
        size = P.height_size;
        count = omega (arith, P.count, e);
        low = λ c a l d. omega (arith, P.low c a l d, P.count, P.total, e);
        apart = P.apart;
        unused = P.unused;
        lower = P.lower;
        stuck = blocked;
      }
