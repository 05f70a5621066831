-- One equation more at the end: the list of equations gets longer by it, and the shape stays.
use mathlib.Core.Path.{◌≡◌, refl, sym, ap, ◌∙◌}
use mathlib.Core.Bool.{false}
use mathlib.Core.Logic.{⊎_elim}
use mathlib.Core.List.{List, [], ◌∷◌, ◌++◌}
use Prim.Native.Nat.{ℕ, ◌+◌, ◌<◌}
use native.Mathlib.Omega.{arith}
use lib.ListN.{length, get_or, set, length-set}
use lib.Seq.{get_or-set_same, get_or-set_other}
use Rattle.graph.specs.Limits.{equation_limit}
use Rattle.graph.specs.State.{equation_of, name_held}
use Rattle.base.proofs.TabLaws.{tab_put}
use Rattle.store.specs.Views.{equation_at, equations_of}
use Rattle.store.specs.Shape.{EquationsShape}
use Rattle.store.specs.Operations.{with_equation, PutsEquation}
use Rattle.store.specs.declared.Equations.{Equations}
use Rattle.std.proofs.lemmas.Bool.{cases_eq}
use Rattle.store.proofs.RemoveLaws.{held_at}

-- the array's lengths, as the struct's own rule says
pub record Full (e : Equations) : Type 0 where
  pub names : length e.name ≡ equation_limit
  pub lefts : length e.left ≡ equation_limit
  pub rights : length e.right ≡ equation_limit

module _ (e : Equations) (n u v : ℕ) (F : Full e) (room : e.count < equation_limit) where
  new : (l : List ℕ) (x i : ℕ) → length l ≡ equation_limit → i ≡ e.count → get_or (set l e.count x) i 0 ≡ x
  new l x i z q = ap (λ (j : ℕ). get_or (set l e.count x) j 0) q ∙ get_or-set_same l e.count x 0 (omega arith)

  other : (l : List ℕ) (x i : ℕ) → (i ≡ e.count → ⊥) → get_or (set l e.count x) i 0 ≡ get_or l i 0
  other l x i d = get_or-set_other l e.count i x 0 d

  equation_list : equations_of (with_equation e n u v) ≡ equations_of e ++ (equation_of n u v ∷ [])
  unfolding equations_of
  equation_list =
      tab_put e.count (e.count + 1) (equation_at e) (equation_at (with_equation e n u v)) (equation_of n u v) refl
      (λ i h.
      let d : i ≡ e.count → ⊥ = λ q. omega arith in
      rw (other e.name n i d, other e.left u i d, other e.right v i d))
      (rw (new e.name n e.count F.names refl, new e.left u e.count F.lefts refl, new e.right v e.count F.rights refl))

  equation_shape : (m : ℕ) → EquationsShape m e → u < m → v < m → name_held n (equations_of e) ≡ false → EquationsShape m (with_equation e n u v)
  unfolding equations_of
  equation_shape m s hu hv unheld = record {
    name_size = length-set e.name e.count n ∙ s.name_size;
    left_size = length-set e.left e.count u ∙ s.left_size;
    right_size = length-set e.right e.count v ∙ s.right_size;
    few = omega arith;
    lefts = λ i h. ⊎_elim (λ q. rw (new e.left u i F.lefts q) hu) (λ d. rw (other e.left u i d) (s.lefts i (before i h d))) (cases_eq i e.count);
    rights = λ i h. ⊎_elim (λ q. rw (new e.right v i F.rights q) hv) (λ d. rw (other e.right v i d) (s.rights i (before i h d))) (cases_eq i e.count);
    distinct = λ i j l h q. ⊎_elim (λ p. new_name i (omega arith) (sym (other e.name n i (λ z. omega arith)) ∙ q ∙ new e.name n j F.names p)) (λ d. s.distinct i j l (before j h d) (sym (other e.name n i (λ z. omega (arith, before j h d))) ∙ q ∙ other e.name n j d)) (cases_eq j e.count);
    unused_names = λ i h l. other e.name n i (λ q. omega arith) ∙ s.unused_names i (omega arith) l;
    unused_lefts = λ i h l. other e.left u i (λ q. omega arith) ∙ s.unused_lefts i (omega arith) l;
    unused_rights = λ i h l. other e.right v i (λ q. omega arith) ∙ s.unused_rights i (omega arith) l;
  }
    where
      before : (i : ℕ) → i < e.count + 1 → (i ≡ e.count → ⊥) → i < e.count
      before i h d = omega arith

      new_name : (i : ℕ) → i < e.count → get_or e.name i 0 ≡ n → ⊥
      new_name i h q = cc (held_at n e.count (equation_at e) i h q)

  pub puts_equation : PutsEquation e n u v (with_equation e n u v)
  puts_equation = record { exact = refl; count = refl; held = equation_list; shape = equation_shape }
