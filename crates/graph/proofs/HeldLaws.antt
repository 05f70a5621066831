-- The list of held equations with one more at the end, and with one struck: what stands in it, how many, and names all different.
--   removed_in, removed_fewer        what is left after a withdrawal stood there before
--   distinct_snoc, distinct_removed  names stay all different
use mathlib.Core.Path.{◌≡◌, refl, sym}
use mathlib.Core.Bool.{Bool, true, false, cond}
use mathlib.Core.List.{List, [], ◌∷◌, ◌++◌}
use mathlib.Core.Option.{some}
use Prim.Native.Nat.{ℕ, zero, suc, ◌≤◌}
use native.Mathlib.Omega.{arith}
use lib.ListN.{length, get_elem?}
use lib.Dec.{eqb}
use borrow.Author.Tests.{ne_eqb, eqb-false}
use Rattle.graph.specs.State.{Equation, State, state_with, name_held}
use Rattle.graph.specs.Book.{removed}
use Rattle.graph.proofs.SolutionLaws.{Fewer}

-- what is left after a withdrawal stood there before
pub removed_in : (n : ℕ) (es : List Equation) (i : ℕ) (e : Equation) → get_elem? (removed n es) i ≡ some e → (j : ℕ) × (get_elem? es j ≡ some e)
removed_in n [] i e h = (i, h)
removed_in n (d ∷ es) i e h = go (eqb d.name n) i h (removed_in n es)
  where
    go : (t : Bool) (i : ℕ) → get_elem? (cond t es (d ∷ removed n es)) i ≡ some e
        → ((i : ℕ) (e : Equation) → get_elem? (removed n es) i ≡ some e → (j : ℕ) × (get_elem? es j ≡ some e)) → (j : ℕ) × (get_elem? (d ∷ es) j ≡ some e)
    go true i h r = (suc i, h)
    go false zero h r = (0, h)
    go false (suc i) h r = let q : (j : ℕ) × (get_elem? es j ≡ some e) = r i e h in (suc q.0, q.1)

pub removed_fewer : (s : State) (n : ℕ) → Fewer (state_with s.nodes (removed n s.equations)) s
removed_fewer s n = record { nodes_same = refl; held_in = λ e h. removed_in n s.equations h.0 e h.1 }

pub removed_length : (n : ℕ) (es : List Equation) → length (removed n es) ≤ length es
removed_length n [] = omega arith
removed_length n (d ∷ es) = go (eqb d.name n) (removed_length n es)
  where
    go : (t : Bool) → length (removed n es) ≤ length es → length (cond t es (d ∷ removed n es)) ≤ length (d ∷ es)
    go true r = omega arith
    go false r = omega arith

-- ---- names all different

abbrev pub Distinct : List Equation → Type 0
Distinct [] = Unit {0}
Distinct (e ∷ es) = (name_held e.name es ≡ false) × Distinct es

-- a name that isn't held stays so
held_snoc : (n : ℕ) (es : List Equation) (e : Equation) → name_held n es ≡ false → (e.name ≡ n → ⊥) → name_held n (es ++ (e ∷ [])) ≡ false
held_snoc n [] e h k = rw (ne_eqb e.name n k)
held_snoc n (d ∷ es) e h k = go (eqb d.name n) h (held_snoc n es e)
  where
    go : (t : Bool) → cond t true (name_held n es) ≡ false → (name_held n es ≡ false → (e.name ≡ n → ⊥) → name_held n (es ++ (e ∷ [])) ≡ false)
        → cond t true (name_held n (es ++ (e ∷ []))) ≡ false
    go true h r = h
    go false h r = r h k

held_removed : (n m : ℕ) (es : List Equation) → name_held n es ≡ false → name_held n (removed m es) ≡ false
held_removed n m [] h = h
held_removed n m (d ∷ es) h = go (eqb d.name m) (eqb d.name n) refl h (held_removed n m es)
  where
    go : (t u : Bool) → eqb d.name n ≡ u → cond u true (name_held n es) ≡ false → (name_held n es ≡ false → name_held n (removed m es) ≡ false)
        → name_held n (cond t es (d ∷ removed m es)) ≡ false
    go t true e h r = cc
    go true false e h r = h
    go false false e h r = rw e (r h)

pub distinct_snoc : (es : List Equation) (e : Equation) → Distinct es → name_held e.name es ≡ false → Distinct (es ++ (e ∷ []))
distinct_snoc [] e w h = (refl, tt)
distinct_snoc (d ∷ es) e w h = go (eqb d.name e.name) refl h (distinct_snoc es e w.1)
  where
    go : (t : Bool) → eqb d.name e.name ≡ t → cond t true (name_held e.name es) ≡ false → (name_held e.name es ≡ false → Distinct (es ++ (e ∷ [])))
        → Distinct ((d ∷ es) ++ (e ∷ []))
    go true q h r = cc
    go false q h r = (held_snoc d.name es e w.0 (λ p. eqb-false d.name e.name q (sym p)), r h)

pub distinct_removed : (n : ℕ) (es : List Equation) → Distinct es → Distinct (removed n es)
distinct_removed n [] w = w
distinct_removed n (d ∷ es) w = go (eqb d.name n) (distinct_removed n es w.1)
  where
    go : (t : Bool) → Distinct (removed n es) → Distinct (cond t es (d ∷ removed n es))
    go true r = w.1
    go false r = (held_removed d.name n es w.0, r)
