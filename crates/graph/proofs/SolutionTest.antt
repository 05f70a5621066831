-- Tests that compute, and what they say: that two lists of numbers are a state's classes and heights, and that a state is proper.
-- For examples: each is closed by computation.
use mathlib.Core.Path.{◌≡◌}
use mathlib.Core.Bool.{Bool, true, false, not, ◌&&◌, ◌||◌}
use mathlib.Core.List.{List, [], ◌∷◌}
use mathlib.Core.Option.{some}
use Prim.Native.Nat.{ℕ, zero, suc, ◌<◌}
use lib.ListN.{length, get_elem?, get_or}
use lib.Dec.{eqb, ltb}
use borrow.Author.Tests.{eqb-true, eqb-false, ltb-true, eq-eqb}
use Rattle.graph.specs.State.{Node, variable, functor, Equation, State, IsNode, NodeAt, ChildAt, Held, EqualLabels, Proper}
use Rattle.graph.specs.Closure.{Same}
use Rattle.graph.specs.Solution.{Classes, Solution}
use Rattle.graph.specs.Verdict.{Verdict, clashes, cycles}
use Rattle.graph.specs.Lines.{Line}
use Rattle.graph.specs.Goals.{clash_goal, cycle_goal, Passes}
use Rattle.std.proofs.lemmas.Bool.{and_parts}
use Rattle.base.proofs.ListLaws.{lt_found}
use Rattle.graph.proofs.SolutionLaws.{same_class, classes_no_clash, solution_verdict}
use Rattle.graph.proofs.SoundLaws.{judge_sound}

-- ---- the tests

-- f holds of each element and its index
abbrev each : {A : Type 0} → (ℕ → A → Bool) → List A → Bool
each f [] = true
each f (x ∷ xs) = f 0 x && each (λ i. f (suc i)) xs

abbrev same_places : (ℕ → ℕ) → List ℕ → List ℕ → Bool
same_places c [] [] = true
same_places c [] (y ∷ ys) = false
same_places c (x ∷ xs) [] = false
same_places c (x ∷ xs) (y ∷ ys) = eqb (c x) (c y) && same_places c xs ys

-- two nodes of one class: where both are functor nodes, one label, and children of one class place by place
abbrev agree : (ℕ → ℕ) → Node → Node → Bool
agree c variable m = true
agree c (functor f cs) variable = true
agree c (functor f cs) (functor g ds) = eqb f g && same_places c cs ds

abbrev children_lower : (ℕ → ℕ) → ℕ → Node → Bool
children_lower h u variable = true
children_lower h u (functor f cs) = each (λ i v. ltb (h v) (h u)) cs

-- number u of a list, 0 past its end
abbrev at : List ℕ → ℕ → ℕ
at l u = get_or l u 0

abbrev equated_test : (ℕ → ℕ) → State → Bool
equated_test c s = each (λ j e. eqb (c e.left) (c e.right)) s.equations

abbrev pair_test : (ℕ → ℕ) → ℕ → Node → ℕ → Node → Bool
pair_test c u n v m = not (eqb (c u) (c v)) || agree c n m

abbrev pairs_test : (ℕ → ℕ) → State → Bool
pairs_test c s = each (λ u n. each (pair_test c u n) s.nodes) s.nodes

abbrev level_test : (ℕ → ℕ) → (ℕ → ℕ) → State → Bool
level_test c h s = each (λ u n. each (λ v m. not (eqb (c u) (c v)) || eqb (h u) (h v)) s.nodes) s.nodes

abbrev lower_test : (ℕ → ℕ) → State → Bool
lower_test h s = each (children_lower h) s.nodes

abbrev ends_test : State → Bool
ends_test s = each (λ j e. ltb e.left (length s.nodes) && ltb e.right (length s.nodes)) s.equations

-- a list of classes, as `Classes` wants them
abbrev pub is_classes : State → List ℕ → Bool
is_classes s cs = equated_test (at cs) s && pairs_test (at cs) s

-- lists of classes and heights, as `Solution` wants them
abbrev pub is_solution : State → List ℕ → List ℕ → Bool
is_solution s cs hs = is_classes s cs && (level_test (at cs) (at hs) s && lower_test (at hs) s)

abbrev pub is_proper : State → Bool
is_proper s = lower_test (λ u. u) s && ends_test s

-- ---- what they say

each_at : {A : Type 0} (f : ℕ → A → Bool) (l : List A) → each f l ≡ true → (i : ℕ) (a : A) → get_elem? l i ≡ some a → f i a ≡ true
each_at f [] e i a q = cc
each_at f (x ∷ xs) e zero a q = let p : x ≡ a = cc in rw (← p) (and_parts _ _ e).0
each_at f (x ∷ xs) e (suc i) a q = each_at (λ j. f (suc j)) xs (and_parts _ _ e).1 i a q

places_at : (c : ℕ → ℕ) (cs ds : List ℕ) → same_places c cs ds ≡ true → (i x y : ℕ) → ChildAt cs i x → ChildAt ds i y → c x ≡ c y
places_at c [] ds e i x y p q = cc
places_at c (a ∷ cs) [] e i x y p q = cc
places_at c (a ∷ cs) (d ∷ ds) e zero x y p q =
    let k : c a ≡ c d = eqb-true (c a) (c d) (and_parts _ _ e).0 in cc
places_at c (a ∷ cs) (d ∷ ds) e (suc i) x y p q = places_at c cs ds (and_parts _ _ e).1 i x y p q

agree_label : (c : ℕ → ℕ) (f g : ℕ) (cs ds : List ℕ) → agree c (functor f cs) (functor g ds) ≡ true → EqualLabels f g
agree_label c f g cs ds e = eqb-true f g (and_parts _ _ e).0

module _ (s : State) (c : ℕ → ℕ) (e-ok : equated_test c s ≡ true) (p-ok : pairs_test c s ≡ true) where
  pair_at : (u v : ℕ) (n m : Node) → NodeAt s u n → NodeAt s v m → c u ≡ c v → agree c n m ≡ true
  pair_at u v n m p q k =
      cc (each_at (pair_test c u n) s.nodes (each_at (λ x o. each (pair_test c x o) s.nodes) s.nodes p-ok u n p) v m q, eq-eqb (c u) (c v) k)

  abbrev tested : Classes s
  tested = record {
    class = c;
    equated = λ e w. eqb-true (c e.left) (c e.right) (each_at (λ j d. eqb (c d.left) (c d.right)) s.equations e-ok w.0 e w.1);
    label = λ u v f g xs ys p q k. agree_label c f g xs ys (pair_at u v (functor f xs) (functor g ys) p q k);
    place = λ u v f g j x y xs ys p q k w z.
        places_at c xs ys (and_parts _ _ (pair_at u v (functor f xs) (functor g ys) p q k)).1 j x y w z;
  }

level_at : (s : State) (c h : ℕ → ℕ) → level_test c h s ≡ true → (u v : ℕ) → IsNode s u → IsNode s v → c u ≡ c v → h u ≡ h v
level_at s c h ok u v p q k =
    let n = lt_found s.nodes u p in
    let m = lt_found s.nodes v q in
    eqb-true (h u) (h v)
    (cc (
      each_at (λ y o. not (eqb (c u) (c y)) || eqb (h u) (h y)) s.nodes
          (each_at (λ x r. each (λ y o. not (eqb (c x) (c y)) || eqb (h x) (h y)) s.nodes) s.nodes ok u n.0 n.1)
          v m.0 m.1,
      eq-eqb (c u) (c v) k,
    ))

lower_at : (s : State) (h : ℕ → ℕ) → lower_test h s ≡ true → (u f j v : ℕ) (xs : List ℕ) → NodeAt s u (functor f xs) → ChildAt xs j v → h v < h u
lower_at s h ok u f j v xs p w =
    ltb-true (h v) (h u) (each_at (λ o x. ltb (h x) (h u)) xs (each_at (children_lower h) s.nodes ok u (functor f xs) p) j v w)

abbrev classes_ok : (s : State) (cs : List ℕ) → is_classes s cs ≡ true → Classes s
classes_ok s cs e =
    let p = and_parts _ _ e in tested s (at cs) p.0 p.1

pub solution_ok : (s : State) (cs hs : List ℕ) → is_solution s cs hs ≡ true → Solution s
solution_ok s cs hs e =
    let r = (and_parts _ _ e).1 in
    record {
      classes = classes_ok s cs (and_parts _ _ e).0;
      height = at hs;
      level = level_at s (at cs) (at hs) (and_parts _ _ r).0;
      lower = lower_at s (at hs) (and_parts _ _ r).1;
    }

ends_at : (s : State) → ends_test s ≡ true → (e : Equation) → Held s e → ltb e.left (length s.nodes) && ltb e.right (length s.nodes) ≡ true
ends_at s ok e w = each_at (λ j d. ltb d.left (length s.nodes) && ltb d.right (length s.nodes)) s.equations ok w.0 e w.1

pub proper_ok : (s : State) → is_proper s ≡ true → Proper s
proper_ok s ok =
    let r = (and_parts _ _ ok).1 in
    record {
      earlier = lower_at s (λ u. u) (and_parts _ _ ok).0;
      left_known = λ e w. ltb-true e.left (length s.nodes) (and_parts _ _ (ends_at s r e w)).0;
      right_known = λ e w. ltb-true e.right (length s.nodes) (and_parts _ _ (ends_at s r e w)).1;
    }

-- ---- verdicts, by what computes

ruleset faults = (clashes, cycles)

module _ (s : State) where
  pub clash_verdict : (ls : List Line) → Passes s clash_goal ls → Verdict s 8
  clash_verdict ls e = let c = judge_sound s clash_goal ls e in search faults

  pub cycle_verdict : (cs : List ℕ) (ls : List Line) → is_classes s cs ≡ true → Passes s cycle_goal ls → Verdict s 9
  cycle_verdict cs ls d e = cycles (classes_no_clash s (classes_ok s cs d)) (judge_sound s cycle_goal ls e)

  pub held_verdict : (cs hs : List ℕ) → is_proper s ≡ true → is_solution s cs hs ≡ true → Verdict s 0
  held_verdict cs hs p e = solution_verdict s (proper_ok s p) (solution_ok s cs hs e)

  -- nodes that classes tell apart aren't the same
  pub apart : (cs : List ℕ) (u v : ℕ) → is_classes s cs ≡ true → eqb (at cs u) (at cs v) ≡ false → Same s u v → ⊥
  apart cs u v d n p = eqb-false (at cs u) (at cs v) n (same_class s (classes_ok s cs d) p)
