-- A trace is replayed entry by entry, on any table that its first entries made: what a proof writer goes by.
use mathlib.Core.Path.{◌≡◌, refl, sym, ◌∙◌, ap}
use mathlib.Core.Logic.{inl, inr, ⊎_elim}
use mathlib.Core.List.{List, [], ◌∷◌, ◌++◌}
use mathlib.Core.Option.{some}
use Prim.Native.Nat.{ℕ, suc, ◌≤◌, ◌<◌}
use native.Mathlib.Nat.{le_of_suc-le-suc, eq-or-lt_of_le}
use native.Mathlib.Omega.{arith}
use lib.ListN.{length, get_elem?, get_or, take, length-append, get_or-append}
use lib.Seq.{take-append-le, take_at}
use Rattle.graph.specs.State.{functor, Equation, State, NodeAt, ChildAt, Proper}
use Rattle.base.proofs.ListLaws.{found_lt}
use Rattle.solve_classes.specs.Table.{class}
use Rattle.solve_trace.specs.declared.Entry.{Entry}
use Rattle.solve_trace.specs.Trace.{Reason, equation, down, Traced, start, merge}
use Rattle.solve_trace.proofs.TraceLaws.{reason_known}

-- lists with a last element
pub last_length : (es : List Entry) (e : Entry) → length (es ++ (e ∷ [])) ≡ suc (length es)
last_length es e = omega (arith, length-append es (e ∷ []))

last_at : (es : List Entry) (e d : Entry) → get_or (es ++ (e ∷ [])) (length es) d ≡ e
last_at [] e d = refl
last_at (x ∷ xs) e d = last_at xs e d

last_same : (es ds : List Entry) (e d : Entry) → es ++ (e ∷ []) ≡ ds ++ (d ∷ []) → (es ≡ ds) × (e ≡ d)
last_same es ds e d q =
    let n : length es ≡ length ds = omega (arith, last_length es e, last_length ds d, ap length q) in (
      sym (take_at es (e ∷ []) (length es) refl) ∙ ap (take (length es)) q ∙ take_at ds (d ∷ []) (length es) (sym n),
      sym (last_at es e d) ∙ ap (λ (l : List Entry). get_or l (length es) d) q ∙ ap (λ (k : ℕ). get_or (ds ++ (d ∷ [])) k d) n ∙ last_at ds d d,
    )

module _ (s : State) (P : Proper s) (fits : length s.nodes ≤ 64) where
  -- an entry says which nodes it joins
  reason_ends : {t r : List ℕ} {e d : Entry} {x y u v : ℕ} → Reason s t e x y → Reason s r d u v → e ≡ d → (x ≡ u) × (y ≡ v)
  reason_ends (equation {e = a} k h) (equation {e = b} j i) q =
      let p : k ≡ j = cc in
      let z : some a ≡ some b = sym h ∙ ap (get_elem? s.equations) p ∙ i in
      let w : a ≡ b = cc in
      (ap (λ (c : Equation). c.left) w, ap (λ (c : Equation). c.right) w)
  reason_ends (equation k h) (down p q j c n m l x y) w = absurd (cc)
  reason_ends (down p q j c n m l x y) (equation k h) w = absurd (cc)
  reason_ends (down p q j {f} {g} {x} {y} {cs} {ds} c n m l a b) (down p' q' j' {f = f'} {g = g'} {x = x'} {y = y'} {cs = cs'} {ds = ds'} c' n' m' l' a' b') w =
      let ep : p ≡ p' = cc in
      let eq : q ≡ q' = cc in
      let ej : j ≡ j' = cc in
      (same_child p p' j j' f f' x x' cs cs' ep ej n n' a a', same_child q q' j j' g g' y y' ds ds' eq ej m m' b b')
    where
      same_child : (p p' j j' f f' x x' : ℕ) (cs cs' : List ℕ) → p ≡ p' → j ≡ j' → NodeAt s p (functor f cs) → NodeAt s p' (functor f' cs')
          → ChildAt cs j x → ChildAt cs' j' x' → x ≡ x'
      same_child p p' j j' f f' x x' cs cs' ep ej n n' a a' = cc

  -- two tables that one trace made have one relation
  pub traced_unique : {es ds : List Entry} {t r : List ℕ} → Traced s es t → Traced s ds r → es ≡ ds → (u v : ℕ) → u < 64 → v < 64 → class t u ≡ class t v → class r u ≡ class r v
  traced_unique (start F) (start G) q u v hu hv e =
      let w : u ≡ v = sym (F.alone u hu) ∙ e ∙ F.alone v hv in
      G.alone u hu ∙ w ∙ sym (G.alone v hv)
  traced_unique (start F) (merge ds d R w n m) q u v hu hv e = absurd (omega (arith, ap length q, last_length ds d))
  traced_unique (merge es e T w n m) (start G) q u v hu hv a = absurd (omega (arith, ap length q, last_length es e))
  traced_unique (merge es e {t} {r = t'} {x} {y} T w n m) (merge ds d {t = r} {r = r'} {x = x'} {y = y'} R w' n' m') q u v hu hv a =
      let z = last_same es ds e d q in
      let k = reason_known s P w in
      let ends = reason_ends w w' z.1 in
      let before : (u v : ℕ) → u < 64 → v < 64 → class t u ≡ class t v → class r u ≡ class r v =
      λ u v hu hv b. traced_unique T R z.0 u v hu hv b in
      let hx : x < 64 = omega (arith, k.0) in
      let hy : y < 64 = omega (arith, k.1) in
      let ax : class r x ≡ class r x' = ap (class r) ends.0 in
      let ay : class r y ≡ class r y' = ap (class r) ends.1 in
      m'.from u v hu hv
      (⊎_elim
      (λ p. inl (before u v hu hv p))
      (⊎_elim
      (λ p. inr (inl (before u x hu hx p.0 ∙ ax, before v y hv hy p.1 ∙ ay)))
      (λ p. inr (inr (before u y hu hy p.0 ∙ ay, before v x hv hx p.1 ∙ ax))))
      (m.to u v hu hv a))

  -- entry k on the table r: what it joins, that it is justified there, and that it joins two classes
  pub record Turn (es : List Entry) (k : ℕ) (r : List ℕ) : Type 0 where
    pub left : ℕ
    pub right : ℕ
    pub reason : (d : Entry) → Reason s r (get_or es k d) left right
    pub apart : class r left ≡ class r right → ⊥

  reason_on : {t r : List ℕ} {e : Entry} {x y : ℕ} → ((u v : ℕ) → u < 64 → v < 64 → class t u ≡ class t v → class r u ≡ class r v) → Reason s t e x y → Reason s r e x y
  reason_on go (equation k h) = equation k h
  reason_on go (down p q j {f} {g} {x} {y} {cs} {ds} c n m l a b) =
      let hp = found_lt s.nodes p _ n in
      let hq = found_lt s.nodes q _ m in
      down p q j (go p q (omega arith) (omega arith) c) n m l a b

  pub replay : {es : List Entry} {t : List ℕ} → Traced s es t → (k : ℕ) → k < length es → (r : List ℕ) → Traced s (take k es) r → Turn es k r
  replay (start F) k h r R = absurd (omega arith)
  replay (merge es e {t} {r = t'} {x} {y} T w n m) k h r R =
      let l : k < suc (length es) = omega (arith, h, last_length es e) in
      ⊎_elim
      (λ q.
      let z : es ≡ take k (es ++ (e ∷ [])) = sym (take_at es (e ∷ []) k (sym q)) in
      let b = reason_known s P w in
      record {
        left = x;
        right = y;
        reason = λ d. rw (q, last_at) (reason_on (λ u v hu hv a. traced_unique T R z u v hu hv a) w);
        apart = λ a. n (traced_unique R T (sym z) x y (omega (arith, b.0)) (omega (arith, b.1)) a);
      })
      (λ q.
      let z : take k (es ++ (e ∷ [])) ≡ take k es = take-append-le k es (e ∷ []) (omega arith) in
      let E = replay T k q r (rw z at R) in
      record { left = E.left; right = E.right; reason = λ d. rw (get_or-append es (e ∷ []) d k q) (E.reason d); apart = E.apart })
      (eq-or-lt_of_le (le_of_suc-le-suc l))
