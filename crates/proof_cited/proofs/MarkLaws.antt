-- What marking the cited lines and noting a name store.
use mathlib.Core.Path.{◌≡◌, refl, sym, ap, ◌∙◌}
use mathlib.Core.Bool.{Bool, true, false, cond}
use mathlib.Core.List.{List, [], ◌∷◌}
use mathlib.Core.Logic.{◌⊎◌, inl, inr, ⊎_elim}
use mathlib.Core.Option.{some}
use Prim.Native.Nat.{ℕ, zero, suc, ◌/◌, ◌≤◌, ◌<◌}
use native.Mathlib.Omega.{arith}
use lib.ListN.{length, get_or, set, replicate, length-set}
use lib.Seq.{get_or-set_same, get_or-set_other}
use Rattle.std.proofs.lemmas.Grind.{common_steps}
use lib.Dec.{eqb, ltb}
use borrow.Author.Tests.{eq-eqb, ne_eqb, eqb-true, lt-ltb, ltb-true}
use Rattle.proof_cited.specs.Cited.{citations, In}
use Rattle.proof_cited.specs.Marks.{mark_one, mark_all, see_one, trues}
use Rattle.proof_cited.proofs.OneLaws.{trues_set}

-- ---- a table of n times false

pub blank_none : (n i : ℕ) → get_or (replicate n false) i false ≡ false
blank_none n i = grind (arith, common_steps)

-- ---- a number that is no rule, or a rule that cites nothing

pub nothing_cited : (m : List Bool) (k r f s : ℕ) → (r ≡ 4 → ⊥) → (r ≡ 5 → ⊥) → (r ≡ 6 → ⊥) → m ≡ mark_all m k (citations r f s)
unfolding citations
nothing_cited m k r f s a b c = rw (ne_eqb _ _ a, ne_eqb _ _ b, ne_eqb _ _ c)

pub nothing_seen : (s : List Bool) (r f : ℕ) → (r ≡ 1 → ⊥) → s ≡ see_one s r f
unfolding see_one
nothing_seen s r f a = rw (ne_eqb _ _ a)

-- ---- a store of true

module _ (m : List Bool) (a : ℕ) where
  set_keep : (i : ℕ) → get_or m i false ≡ true → a < length m → get_or (set m a true) i false ≡ true
  set_keep i e h = grind (arith, common_steps)

  set_from : (i : ℕ) → get_or (set m a true) i false ≡ true → (get_or m i false ≡ true) ⊎ (i ≡ a)
  set_from i e = grind (arith, common_steps)

-- ---- marks

module _ (m : List Bool) (k a : ℕ) where
  one_length : length (mark_one m k a) ≡ length m
  unfolding mark_one
  one_length = go (ltb a k)
    where
      go : (b : Bool) → length (cond b (set m a true) m) ≡ length m
      go true = length-set m a true
      go false = refl

  module _ (room : k ≤ length m) where
    one_keep : (i : ℕ) → get_or m i false ≡ true → get_or (mark_one m k a) i false ≡ true
    unfolding mark_one
    one_keep i e = go (ltb a k) refl
      where
        go : (b : Bool) → ltb a k ≡ b → get_or (cond b (set m a true) m) i false ≡ true
        go true q = let h = ltb-true a k q in set_keep m a i e (omega arith)
        go false q = e

    one_new : a < k → get_or (mark_one m k a) a false ≡ true
    unfolding mark_one
    one_new h = rw (lt-ltb a k h) (get_or-set_same m a true false (omega arith))

  one_past : (i : ℕ) → k ≤ i → get_or (mark_one m k a) i false ≡ get_or m i false
  unfolding mark_one
  one_past i h = go (ltb a k) refl
    where
      go : (b : Bool) → ltb a k ≡ b → get_or (cond b (set m a true) m) i false ≡ get_or m i false
      go true q = let l = ltb-true a k q in get_or-set_other m a i true false (λ e. omega arith)
      go false q = refl

  one_from : (i : ℕ) → get_or (mark_one m k a) i false ≡ true → (get_or m i false ≡ true) ⊎ ((i < k) × (i ≡ a))
  unfolding mark_one
  one_from i e = go (ltb a k) refl e
    where
      go : (b : Bool) → ltb a k ≡ b → get_or (cond b (set m a true) m) i false ≡ true → (get_or m i false ≡ true) ⊎ ((i < k) × (i ≡ a))
      go true q e = ⊎_elim (λ x. inl x) (λ y. let l = ltb-true a k q in inr (omega arith, y)) (set_from m a i e)
      go false q e = inl e

pub all_length : (m : List Bool) (k : ℕ) (l : List ℕ) → length (mark_all m k l) ≡ length m
all_length m k [] = refl
all_length m k (a ∷ l) = all_length (mark_one m k a) k l ∙ one_length m k a

pub all_keep : (m : List Bool) (k : ℕ) (l : List ℕ) → k ≤ length m → (i : ℕ) → get_or m i false ≡ true → get_or (mark_all m k l) i false ≡ true
all_keep m k [] h i e = e
all_keep m k (a ∷ l) h i e = all_keep (mark_one m k a) k l (omega (arith, one_length m k a)) i (one_keep m k a h i e)

pub all_past : (m : List Bool) (k : ℕ) (l : List ℕ) (i : ℕ) → k ≤ i → get_or (mark_all m k l) i false ≡ get_or m i false
all_past m k [] i h = refl
all_past m k (a ∷ l) i h = all_past (mark_one m k a) k l i h ∙ one_past m k a i h

pub all_new : (m : List Bool) (k : ℕ) (l : List ℕ) → k ≤ length m → (i : ℕ) → i < k → In i l → get_or (mark_all m k l) i false ≡ true
all_new m k [] h i q (p, e) = cc
all_new m k (a ∷ l) h i q (zero, e) =
    let z : a ≡ i = cc in
    all_keep (mark_one m k a) k l (omega (arith, one_length m k a)) i (rw (← z) (one_new m k a h (omega arith)))
all_new m k (a ∷ l) h i q (suc p, e) = all_new (mark_one m k a) k l (omega (arith, one_length m k a)) i q (p, e)

pub all_from : (m : List Bool) (k : ℕ) (l : List ℕ) (i : ℕ) → get_or (mark_all m k l) i false ≡ true → (get_or m i false ≡ true) ⊎ ((i < k) × In i l)
all_from m k [] i e = inl e
all_from m k (a ∷ l) i e =
    ⊎_elim
    (λ x. ⊎_elim (λ y. inl y) (λ z. inr (z.0, (0, ap some (sym z.1)))) (one_from m k a i x))
    (λ y. inr (y.0, (suc y.1.0, y.1.1)))
    (all_from (mark_one m k a) k l i e)

-- ---- names

module _ (s : List Bool) (r f : ℕ) where
  pub see_length : length (see_one s r f) ≡ length s
  unfolding see_one
  see_length = go (eqb r 1)
    where
      go : (b : Bool) → length (cond b (set s f true) s) ≡ length s
      go true = length-set s f true
      go false = refl

  pub see_keep : (x : ℕ) → get_or s x false ≡ true → f < length s → get_or (see_one s r f) x false ≡ true
  unfolding see_one
  see_keep x e h = go (eqb r 1)
    where
      go : (b : Bool) → get_or (cond b (set s f true) s) x false ≡ true
      go true = set_keep s f x e h
      go false = e

  pub see_new : r ≡ 1 → f < length s → get_or (see_one s r f) f false ≡ true
  unfolding see_one
  see_new e h = rw (eq-eqb r 1 e) (get_or-set_same s f true false h)

  pub see_from : (x : ℕ) → get_or (see_one s r f) x false ≡ true → (get_or s x false ≡ true) ⊎ ((r ≡ 1) × (f ≡ x))
  unfolding see_one
  see_from x e = go (eqb r 1) refl e
    where
      go : (b : Bool) → eqb r 1 ≡ b → get_or (cond b (set s f true) s) x false ≡ true → (get_or s x false ≡ true) ⊎ ((r ≡ 1) × (f ≡ x))
      go true q e = ⊎_elim (λ y. inl y) (λ z. inr (eqb-true r 1 q, sym z)) (set_from s f x e)
      go false q e = inl e

  -- at most one name more
  pub see_trues : trues (see_one s r f) ≤ suc (trues s)
  unfolding see_one
  see_trues = go (eqb r 1)
    where
      go : (b : Bool) → trues (cond b (set s f true) s) ≤ suc (trues s)
      go true = trues_set s f
      go false = omega arith

-- the block of a noted name is noted
pub see_blocked : (s b : List Bool) (r f : ℕ) → ((x : ℕ) → get_or s x false ≡ true → get_or b (x / 64) false ≡ true) → f / 64 < length b
    → (x : ℕ) → get_or (see_one s r f) x false ≡ true → get_or (see_one b r (f / 64)) (x / 64) false ≡ true
see_blocked s b r f w h x e =
    ⊎_elim
    (λ y. see_keep b r (f / 64) (x / 64) (w x y) h)
    (λ y. rw (← y.1) (see_new b r (f / 64) y.0 h))
    (see_from s r f x e)
