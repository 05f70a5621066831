-- One number of children for each symbol (document 02 (c)).
--   AllFit, fits_exact, fits_at, at_fits   the test passes exactly where each functor node of the symbol has that number of children
--   Misfit, misfit        where it fails, one of them has another number
--   eighteen_just, eighteen_so, variable_fits   a declaration past refusals 2, 3 and 4 is refused with 18 exactly then
--   fits_by_one           of nodes that keep the rule, any one of the symbol decides it
--   fits_snoc             the test of one node more
--   equal_arities         where the rule holds, equal labels have equally many children: document 01's label says the same
--   one_arity_declared, last_fits   the rule with one node more is the rule and the test
--   one_arity_runs        after every list of calls functor nodes of one symbol have equally many children
use mathlib.Core.Path.{◌≡◌, refl, sym, ap, ◌∙◌}
use mathlib.Core.Logic.{⊎_elim}
use mathlib.Core.Bool.{Bool, true, false, not, ◌&&◌, ◌||◌, cond}
use mathlib.Core.List.{List, [], ◌∷◌, ◌++◌}
use mathlib.Core.Option.{none, some}
use Prim.Native.Nat.{ℕ, zero, suc, ◌≤◌, ◌<◌}
use native.Mathlib.Omega.{arith}
use lib.ListN.{length, get_elem?}
use lib.Dec.{eqb, ltb, leb}
use borrow.Author.Tests.{eqb-true, eqb-false, lt-leb, le-ltb}
use Rattle.graph.specs.Limits.{node_limit, child_limit}
use Rattle.graph.specs.State.{Node, variable, functor, State, EqualLabels, OneArity}
use Rattle.graph.specs.Book.{Call, declare, equate, withdraw, clear, Transition, all_below, children_of, arity_fits, node_fits, Late, Else, Refusal, accepted, Runs}
use Rattle.std.proofs.lemmas.Bool.{false_from_ne_true}
use Rattle.base.specs.Tells.{Tells}
use Rattle.base.proofs.TellLaws.{tells_yes, tells_not, tells_same, tells_both, tells_true}
use Rattle.base.proofs.ListLaws.{found_append, found_last, found_snoc}
use Rattle.graph.proofs.AcceptLaws.{arity_differs, declare_accepted, runs_keep}

-- ---- the test

module _ (f k : ℕ) where
  -- each functor node of symbol f has k children
  abbrev pub AllFit : List Node → Type 0
  AllFit ns = (v : ℕ) (ds : List ℕ) → get_elem? ns v ≡ some (functor f ds) → length ds ≡ k

  own_fits : (g : ℕ) (es : List ℕ) → Tells (g ≡ f → length es ≡ k) (not (eqb g f) || eqb (length es) k)
  own_fits g es = go (eqb g f) (eqb (length es) k) refl refl
    where
      go : (b c : Bool) → eqb g f ≡ b → eqb (length es) k ≡ c → Tells (g ≡ f → length es ≡ k) (not b || c)
      go true true p q = tells_yes (λ e. eqb-true (length es) k q)
      go true false p q = tells_not (λ h. eqb-false (length es) k q (h (eqb-true g f p)))
      go false c p q = tells_yes (λ e. absurd (eqb-false g f p e))

  after_variable : (ns : List Node) → AllFit ns → AllFit (variable ∷ ns)
  after_variable ns A zero ds h = cc
  after_variable ns A (suc v) ds h = A v ds h

  after_functor : (g : ℕ) (es : List ℕ) (ns : List Node) → (g ≡ f → length es ≡ k) × AllFit ns → AllFit (functor g es ∷ ns)
  after_functor g es ns A zero ds h =
      let q : g ≡ f = cc in
      let e : ds ≡ es = cc in
      ap length e ∙ A.0 q
  after_functor g es ns A (suc v) ds h = A.1 v ds h

  pub fits_exact : (ns : List Node) → Tells (AllFit ns) (arity_fits f k ns)
  fits_exact [] = tells_yes (λ v ds h. cc)
  fits_exact (variable ∷ ns) = tells_same (after_variable ns) (λ A v. A (suc v)) (fits_exact ns)
  fits_exact (functor g es ∷ ns) = tells_same (after_functor g es ns) (λ A. (λ q. A 0 es cc, λ v. A (suc v))) (tells_both (own_fits g es) (fits_exact ns))

  pub fits_at : (ns : List Node) (v : ℕ) (ds : List ℕ) → arity_fits f k ns ≡ true → get_elem? ns v ≡ some (functor f ds) → length ds ≡ k
  fits_at ns v ds a h = (fits_exact ns).holds a v ds h

  pub at_fits : (ns : List Node) → AllFit ns → arity_fits f k ns ≡ true
  at_fits ns A = tells_true (fits_exact ns) A

  -- a functor node of symbol f that doesn't have k children
  abbrev pub Misfit : List Node → Type 0
  Misfit ns = (v : ℕ) × (ds : List ℕ) × (get_elem? ns v ≡ some (functor f ds)) × (length ds ≡ k → ⊥)

  later : (n : Node) (ns : List Node) → Misfit ns → Misfit (n ∷ ns)
  later n ns m = (suc m.0, m.1, m.2, m.3)

  pub misfit : (ns : List Node) → arity_fits f k ns ≡ false → Misfit ns
  misfit [] a = cc
  misfit (variable ∷ ns) a = later variable ns (misfit ns a)
  misfit (functor g es ∷ ns) a = go (eqb g f) (eqb (length es) k) refl refl a (λ b. later (functor g es) ns (misfit ns b))
    where
      go : (b c : Bool) → eqb g f ≡ b → eqb (length es) k ≡ c → (not b || c) && arity_fits f k ns ≡ false
          → (arity_fits f k ns ≡ false → Misfit (functor g es ∷ ns)) → Misfit (functor g es ∷ ns)
      go true false p q z r = let e : g ≡ f = eqb-true g f p in (0, es, cc, eqb-false (length es) k q)
      go true true p q z r = r z
      go false c p q z r = r z

  pub fits_by_one : (ns : List Node) → OneArity ns → (v : ℕ) (ds : List ℕ) → get_elem? ns v ≡ some (functor f ds) → eqb (length ds) k ≡ arity_fits f k ns
  fits_by_one ns O v ds h = go (eqb (length ds) k) refl
    where
      go : (b : Bool) → eqb (length ds) k ≡ b → b ≡ arity_fits f k ns
      go true e = sym (at_fits ns (λ w es q. O w v f es ds q h ∙ eqb-true (length ds) k e))
      go false e = sym (false_from_ne_true (arity_fits f k ns) (λ a. eqb-false (length ds) k e (fits_at ns v ds a h)))

  pub fits_snoc : (ns : List Node) (n : Node) → arity_fits f k (ns ++ (n ∷ [])) ≡ arity_fits f k ns && arity_fits f k (n ∷ [])
  fits_snoc [] n = refl
  fits_snoc (variable ∷ ns) n = fits_snoc ns n
  fits_snoc (functor g es ∷ ns) n = go (not (eqb g f) || eqb (length es) k) (arity_fits f k ns) (arity_fits f k (n ∷ [])) (fits_snoc ns n)
    where
      go : (b y z : Bool) {x : Bool} → x ≡ y && z → b && x ≡ (b && y) && z
      go true y z e = e
      go false y z e = refl

-- ---- the rule

pub equal_arities : (ns : List Node) → OneArity ns → (u v f g : ℕ) (cs ds : List ℕ) → get_elem? ns u ≡ some (functor f cs) → get_elem? ns v ≡ some (functor g ds)
    → EqualLabels f g → length cs ≡ length ds
equal_arities ns O u v f g cs ds p q e = O u v f cs ds p (rw e q)

-- ---- one node more

pub one_arity_empty : OneArity []
one_arity_empty u v f cs ds h k = cc

module _ (ns : List Node) (n : Node) where
  pub one_arity_declared : node_fits n ns ≡ true → OneArity ns → OneArity (ns ++ (n ∷ []))
  one_arity_declared a O u v f cs ds h k =
      ⊎_elim
      (λ o. ⊎_elim (λ q. O u v f cs ds o q) (λ q. with_new f ds cs q.1 u o) (found_snoc ns n v (functor f ds) k))
      (λ o. ⊎_elim (λ q. sym (with_new f cs ds o.1 v q)) (λ q. ap length (ap children_of (sym o.1 ∙ q.1))) (found_snoc ns n v (functor f ds) k))
      (found_snoc ns n u (functor f cs) h)
    where
      with_new : (f : ℕ) (es xs : List ℕ) → n ≡ functor f es → (x : ℕ) → get_elem? ns x ≡ some (functor f xs) → length xs ≡ length es
      with_new f es xs e x q = fits_at f (length es) ns x xs (rw e at a) q

pub last_fits : (ns : List Node) (n : Node) → OneArity (ns ++ (n ∷ [])) → node_fits n ns ≡ true
last_fits ns variable O = refl
last_fits ns (functor f cs) O =
    at_fits f (length cs) ns (λ v ds h.
    O v (length ns) f ds cs (found_append ns (functor f cs ∷ []) v (functor f ds) h) (found_last ns (length ns) (functor f cs) refl))

-- ---- the book's calls

-- what is refused with 18, some refusal of the lists or none
eighteen_of : (s : State) (n : Node) (x y z a : Bool) → Else (cond x (some 2) (cond y (some 3) (cond z (cond a none (some 18)) (some 4)))) (Late s (declare n)) 18 → a ≡ false
eighteen_of s n true y z a e = absurd (omega (arith, e))
eighteen_of s n false true z a e = absurd (omega (arith, e))
eighteen_of s n false false true true e = absurd (omega (arith, e))
eighteen_of s n false false true false e = refl
eighteen_of s n false false false a e = absurd (omega (arith, e))

module _ (s : State) where
  eighteen : (n : Node) → Refusal s (declare n) 18 → node_fits n s.nodes ≡ false
  eighteen n = eighteen_of s n (leb node_limit (length s.nodes)) (ltb child_limit (length (children_of n))) (all_below (length s.nodes) (children_of n)) (node_fits n s.nodes)

  pub eighteen_just : (f : ℕ) (cs : List ℕ) → Refusal s (declare (functor f cs)) 18 → Misfit f (length cs) s.nodes
  eighteen_just f cs v = misfit f (length cs) s.nodes (eighteen (functor f cs) v)

  pub eighteen_so : (f : ℕ) (cs : List ℕ) → length s.nodes < node_limit → length cs ≤ child_limit → all_below (length s.nodes) cs ≡ true
      → Misfit f (length cs) s.nodes → Refusal s (declare (functor f cs)) 18
  eighteen_so f cs h k a m =
      let b : arity_fits f (length cs) s.nodes ≡ false = false_from_ne_true _ (λ t. m.3 (fits_at f (length cs) s.nodes m.0 m.1 t m.2)) in
      rw (arity_differs s (functor f cs) (lt-leb node_limit (length s.nodes) h) (le-ltb child_limit (length cs) k) a b) refl

  pub variable_fits : Refusal s (declare variable) 18 → ⊥
  variable_fits v = cc (eighteen variable v)

pub one_arity_accepted : (s : State) → OneArity s.nodes → (c : Call) → Refusal s c 0 → OneArity (accepted s c).state.nodes
one_arity_accepted s O (declare n) v = one_arity_declared s.nodes n (declare_accepted s n v).fits O
one_arity_accepted s O (equate e room) v = O
one_arity_accepted s O (withdraw n) v = O
one_arity_accepted s O clear v = one_arity_empty

pub one_arity_runs : {s d : State} {cs : List Call} {rs : List Transition} → OneArity s.nodes → Runs s cs rs d → OneArity d.nodes
one_arity_runs = runs_keep (λ (s : State). OneArity s.nodes) one_arity_accepted
