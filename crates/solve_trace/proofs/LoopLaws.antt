-- A loop over two slices side by side, with the places counted: what a turn takes.
use Rattle.std.proofs.Common.{◌≡◌, ap, subst, List, [], ◌∷◌, map, ℕ, ◌+◌, ◌<◌, length, get_or, arith, refl, Option, Some, Iter}
use Rattle.std.proofs.lemmas.List.{length-map}
use denote.Ref.{Bor}
use Rattle.std.specs.declared.iter.Enumerate.{Enumerate}
use Rattle.std.specs.declared.iter.Zip.{Zip}
use Rattle.std.specs.Iterator.{Yields}
use Rattle.std.specs.Iterator.Adapters.{enumerate_steps, enumerate_source, enumerate_count, zip_first, zip_second}
use Rattle.std.specs.Slice.Iter.{iter_rest}
use Rattle.std.proofs.iter.Yields.{fronts}
use Rattle.std.proofs.lemmas.Iterator.{zips}
use Rattle.std.proofs.lemmas.Slice.Zip.{zip_turn}

module _ {A B : Type 0} where
  so_far : (xs : List (ℕ × (Bor A × Bor B))) (s t : Enumerate (Zip (Iter A) (Iter B))) → Yields (enumerate_steps (zips fronts fronts)) s xs t
      → Yields (zips fronts fronts) (enumerate_source s) (map (λ (p : ℕ × (Bor A × Bor B)). p.1) xs) (enumerate_source t) × (enumerate_count t ≡ enumerate_count s + length xs)
  so_far [] s t y = (ap (λ z. enumerate_source z) y, omega (arith, ap (λ z. enumerate_count z) y))
  so_far (x ∷ xs) s t y =
      let k = so_far xs y.0 t y.2 in
      ((enumerate_source y.0, y.1.0, k.0), omega (arith, k.1, y.1.2))

  module _ (ks : List A) (vs : List B) (xs : List (ℕ × (Bor A × Bor B))) (s t u : Enumerate (Zip (Iter A) (Iter B))) (r : Option (ℕ × (Bor A × Bor B)))
      (first : iter_rest (zip_first (enumerate_source s)) ≡ ks) (second : iter_rest (zip_second (enumerate_source s)) ≡ vs) (none : enumerate_count s ≡ 0)
      (y : Yields (enumerate_steps (zips fronts fronts)) s xs t) where
    pub numbered_turn : (p : ℕ × (Bor A × Bor B)) → r ≡ Some p → enumerate_steps (zips fronts fronts) t r u
        → (p.0 ≡ length xs) × (length xs < length ks) × (length xs < length vs)
        × ((d : A) → p.1.0.now ≡ get_or ks (length xs) d) × ((d : B) → p.1.1.now ≡ get_or vs (length xs) d)
    numbered_turn p e h =
        let k = so_far xs s t y in
        let g = subst (λ o. enumerate_steps (zips fronts fronts) t o u) e h in
        let z = zip_turn ks vs _ _ _ (enumerate_source u) (Some p.1) first second k.0 p.1 refl g.0 in
        let l : length (map (λ (p : ℕ × (Bor A × Bor B)). p.1) xs) ≡ length xs = length-map xs _ in
        (omega (arith, k.1, g.1, none), rw l at z.0, rw l at z.1, rw l at z.2, rw l at z.3)
