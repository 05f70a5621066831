-- The rising list of cited names is one, and where the lines pass each name is held or offered.
use mathlib.Core.Path.{◌≡◌, refl, sym, ap}
use mathlib.Core.Bool.{Bool, true, false}
use mathlib.Core.List.{List}
use Prim.Native.Nat.{ℕ, zero, suc, ◌≤◌, ◌<◌}
use native.Mathlib.Omega.{arith}
use lib.Dec.{ltb, eqb}
use lib.ListN.{length, get_or}
use borrow.Author.Tests.{ltb-true, ltb-false, eqb-true, eqb-false}
use Rattle.graph.specs.State.{State, name_held}
use Rattle.graph.specs.Lines.{Line}
use Rattle.graph.specs.Goals.{Cites}
use Rattle.proof_cited.specs.Cited.{Named, CitedRising}

pub cited_held : (s : State) (ls : List Line) (x : ℕ) → Cites s ls → Named ls x → name_held x s.equations ≡ true
cited_held s ls x c n = rw (← n.name) (c n.at n.line n.there n.by_equation_lem)

-- what stands at i in one list stands at some k, not before i, in the other, where the lists agree before i
module _ (ls : List Line) (a b : List ℕ) (p : CitedRising ls a) (q : CitedRising ls b) (i : ℕ)
    (same : (j : ℕ) → j < i → get_or a j 0 ≡ get_or b j 0) (h : i < length a) where
  abbrev Later : Type 0
  Later = (k : ℕ) × (k < length b) × (get_or b k 0 ≡ get_or a i 0)

  not_before : (w : Later) → i ≤ w.0
  not_before w = go (ltb w.0 i) refl
    where
      go : (t : Bool) → ltb w.0 i ≡ t → i ≤ w.0
      go true e =
          let l = ltb-true w.0 i e in
          absurd (omega (arith, p.rising w.0 i l h, same w.0 l, w.2))
      go false e = ltb-false w.0 i e

  later : Later
  later = q.every (get_or a i 0) (p.only i h)

  pub counted : i < length b
  counted = let w = later in omega (arith, w.1, not_before w)

  pub at_least : get_or b i 0 ≤ get_or a i 0
  at_least = let w = later in go w (eqb i w.0) refl
    where
      go : (w : Later) (t : Bool) → eqb i w.0 ≡ t → get_or b i 0 ≤ get_or a i 0
      go w true e = omega (arith, ap (λ (k : ℕ). get_or b k 0) (eqb-true i w.0 e), w.2)
      go w false e =
          let z = eqb-false i w.0 e in
          let l : i < w.0 = let y = not_before w in omega (arith, z) in
          omega (arith, q.rising i w.0 l w.1, w.2)

module _ (ls : List Line) (a b : List ℕ) (p : CitedRising ls a) (q : CitedRising ls b) where
  -- up to i, by what is known before it
  agree : (i : ℕ) → i ≤ length a → i ≤ length b → (j : ℕ) → j < i → get_or a j 0 ≡ get_or b j 0
  agree zero h k j l = absurd (omega arith)
  agree (suc i) h k j l = go (eqb j i) refl (agree i (omega arith) (omega arith))
    where
      go : (t : Bool) → eqb j i ≡ t → ((j : ℕ) → j < i → get_or a j 0 ≡ get_or b j 0) → get_or a j 0 ≡ get_or b j 0
      go true e before =
          let z = eqb-true j i e in
          rw z (omega (arith, at_least ls a b p q i before (omega arith), at_least ls b a q p i (λ j l. sym (before j l)) (omega arith)))
      go false e before = let z = eqb-false j i e in before j (omega (arith, z))

  least : length a ≤ length b
  least = go (ltb (length b) (length a)) refl
    where
      go : (t : Bool) → ltb (length b) (length a) ≡ t → length a ≤ length b
      go true e = let l = ltb-true (length b) (length a) e in absurd (omega (arith, counted ls a b p q (length b) (agree (length b) (omega arith) (omega arith)) l))
      go false e = ltb-false (length b) (length a) e

-- two such lists have the same names at the same places
pub rising_unique : (ls : List Line) (a b : List ℕ) → CitedRising ls a → CitedRising ls b → (length a ≡ length b) × ((i : ℕ) → i < length a → get_or a i 0 ≡ get_or b i 0)
rising_unique ls a b p q =
    let e : length a ≡ length b = omega (arith, least ls a b p q, least ls b a q p) in
    (e, agree ls a b p q (length a) (omega arith) (omega arith))
