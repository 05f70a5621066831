-- What a lookup of the checker's definition that found something says.
--   IfSome                           a property of what is there, if anything is
--   named_held, functor_at_lem       an equation found by its name is held; a functor found stands there
--   labels_equal, equal_labels_lem   the label test says what equal labels are
use mathlib.Core.Path.{◌≡◌, refl, subst}
use mathlib.Core.Bool.{Bool, true, false, cond}
use mathlib.Core.List.{List, [], ◌∷◌, ◌++◌}
use mathlib.Core.Option.{Option, none, some}
use Prim.Native.Nat.{ℕ, zero, suc}
use lib.ListN.{get_elem?}
use lib.Dec.{eqb}
use Rattle.std.specs.List.{AllByRecursion as All}
use Rattle.graph.specs.State.{Node, variable, functor, Equation, EqualLabels}
use Rattle.graph.specs.Lines.{try, need, named, Functor, functor_of, functor_at, equal_labels}
use Rattle.base.specs.Tells.{Tells}
use Rattle.base.proofs.TellLaws.{tells_eq, tells_true}

-- P of what is there, if anything is
abbrev pub IfSome : {A : Type 0} → (A → Type 0) → Option A → Type 0
IfSome P none = Unit {0}
IfSome P (some a) = P a

module _ {A : Type 0} (P : A → Type 0) where
  pub need_ok : (t : Bool) (o : Option A) → (t ≡ true → IfSome P o) → IfSome P (need t o)
  need_ok true o f = f refl
  need_ok false o f = tt

  pub cond_ok : (t : Bool) (o p : Option A) → IfSome P o → IfSome P p → IfSome P (cond t o p)
  cond_ok true o p f g = f
  cond_ok false o p f g = g

  pub try_ok : {B : Type 0} (o : Option B) (f : B → Option A) → ((x : B) → o ≡ some x → IfSome P (f x)) → IfSome P (try o f)
  try_ok none f h = tt
  try_ok (some x) f h = h x refl

  pub all_at : (l : List A) → All P l → (i : ℕ) (a : A) → get_elem? l i ≡ some a → P a
  all_at [] w i a h = cc
  all_at (x ∷ xs) w zero a h = let e : x ≡ a = cc in subst P e w.0
  all_at (x ∷ xs) w (suc i) a h = all_at xs w.1 i a h

  pub all_snoc : (l : List A) (a : A) → All P l → P a → All P (l ++ (a ∷ []))
  all_snoc [] a w p = (p, tt)
  all_snoc (x ∷ xs) a w p = (w.0, all_snoc xs a w.1 p)

-- ---- what a lookup that found something says

pub named_held : (es : List Equation) (n : ℕ) (e : Equation) → named es n ≡ some e → (i : ℕ) × (get_elem? es i ≡ some e)
named_held [] n e h = cc
named_held (d ∷ es) n e h = go (eqb d.name n) h (named_held es n e)
  where
    go : (t : Bool) → cond t (some d) (named es n) ≡ some e → (named es n ≡ some e → (i : ℕ) × (get_elem? es i ≡ some e))
        → (i : ℕ) × (get_elem? (d ∷ es) i ≡ some e)
    go true q f = (0, q)
    go false q f = let r : (i : ℕ) × (get_elem? es i ≡ some e) = f q in (suc r.0, r.1)

pub functor_at_lem : (ns : List Node) (u : ℕ) (k : Functor) → functor_at ns u ≡ some k → get_elem? ns u ≡ some (functor k.symbol k.children)
functor_at_lem ns u k h = go (get_elem? ns u) h
  where
    go : (o : Option Node) → try o functor_of ≡ some k → o ≡ some (functor k.symbol k.children)
    go none q = cc
    go (some variable) q = cc
    go (some (functor f cs)) q = cc

-- the label test says what equal labels are
module _ (k m : Functor) where
  labels_exact : Tells (EqualLabels k.symbol m.symbol) (equal_labels k m)
  labels_exact = tells_eq k.symbol m.symbol

  pub labels_equal : equal_labels k m ≡ true → EqualLabels k.symbol m.symbol
  labels_equal = labels_exact.holds

  pub equal_labels_lem : EqualLabels k.symbol m.symbol → equal_labels k m ≡ true
  equal_labels_lem = tells_true labels_exact
