-- A loop that writes a function's values of one list into another.
use mathlib.Core.Path.{◌≡◌, sym, ap, ◌∙◌, subst}
use mathlib.Core.List.{List, map}
use Prim.Native.Nat.{ℕ, ◌+◌, ◌<◌}
use native.Mathlib.Omega.{arith}
use lib.ListN.{length, length-map, get_or, get_or-map, set}
use lib.Seq.{paste}
use Rattle.std.proofs.lemmas.List.{places, same_lists}
use Rattle.std.proofs.lemmas.List.Edits.{paste_more}

module _ {X Y : Type 0} (f : X → Y) (d : List Y) (s : List X) where
  pub map_more : (t : List Y) (i : ℕ) (z : X) (y : Y) → t ≡ paste d 0 (map f s) i → y ≡ f (get_or s i z) → i < length d → i < length s → set t i y ≡ paste d 0 (map f s) (i + 1)
  map_more t i z y e q a b =
      ap (λ (l : List Y). set l i y) e
      ∙ ap (set (paste d 0 (map f s) i) i) (q ∙ sym (get_or-map f s i z))
      ∙ subst (λ (k : ℕ). set (paste d 0 (map f s) i) k (get_or (map f s) i (f z)) ≡ paste d 0 (map f s) (i + 1)) (omega arith)
      (paste_more d 0 (map f s) i (f z) (omega (arith, a)) (omega (arith, b, length-map s f)))

  -- written to the end
  pub map_whole : (k : ℕ) → k ≡ length s → k ≡ length d → paste d 0 (map f s) k ≡ map f s
  map_whole k p q =
      same_lists _ _ (grind (arith, places, length-map s f, p, q)) (λ i e h. grind (arith, places, length-map s f, p, q, h))
