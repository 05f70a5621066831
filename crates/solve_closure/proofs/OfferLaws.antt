-- One equation more: the trace and table of a state serve the state with an equation offered.
use Rattle.std.proofs.Common.{◌≡◌, sym, ◌∙◌, ap, ◌⊎◌, inl, inr, ⊎_elim, List, [], ◌∷◌, ℕ, ◌<◌, arith}
use Rattle.graph.specs.State.{Equation, State, IsNode, Held, offered}
use Rattle.base.proofs.ListLaws.{found_snoc}
use Rattle.graph.proofs.ProperLaws.{proper_offered}
use Rattle.base.proofs.ListLaws.{found_append, found_last}
use Rattle.solve_classes.specs.Table.{class}
use Rattle.store.specs.declared.Terms.{Terms}
use Rattle.solve_trace.specs.declared.Entry.{Entry}
use Rattle.solve_trace.specs.declared.Entry.TheVariants as entry
use Rattle.solve_trace.specs.Trace.{Reason, equation, down, Traced, start, merge}
use Rattle.solve_trace.specs.Steps.{Joins}
use Rattle.solve_closure.specs.declared.Settling.{Settling}
use Rattle.solve_closure.specs.Rounds.{Rounds}
use Rattle.solve_closure.specs.Settled.{OfferFits, Before, Settled}
use Rattle.solve_trace.proofs.NodeLaws.{fits, known}
use Rattle.solve_trace.proofs.StepLaws.{extends_join, joins_ends}
use Rattle.solve_closure.proofs.SettledLaws.{verdict}

module _ (s : State) (e : Equation) where
  reason_offered : {t : List ℕ} {r : Entry} {x y : ℕ} → Reason s t r x y → Reason (offered s e) t r x y
  reason_offered (equation {e = d} k h) = equation k (found_append s.equations (e ∷ []) k d h)
  reason_offered (down p q j c n m l a b) = down p q j c n m l a b

  pub traced_offered : {es : List Entry} {t : List ℕ} → Traced s es t → Traced (offered s e) es t
  traced_offered (start F) = start F
  traced_offered (merge es r T w d m) = merge es r (traced_offered T) (reason_offered w) d m

  -- what the offered state holds
  held_cases : (d : Equation) → Held (offered s e) d → Held s d ⊎ (e ≡ d)
  held_cases d h = ⊎_elim (λ q. inl (h.0, q)) (λ q. inr q.1) (found_snoc s.equations e h.0 d h.1)

-- the offered equation is entry m; then rounds
pub solved_offered : (g : Terms) (m x y : ℕ) (t : List ℕ) (es : List Entry) {p : List ℕ} {fs gs : List Entry} {o : Settling}
    → OfferFits g m x y t es → Joins t es x y (entry.Equation m) p fs → Rounds g p fs o gs
    → (s : State) (e : Equation) → Before g s e m x y t es → Settled g (offered s e) o gs
solved_offered g m x y t es {o} A J W s e B =
    let r : List ℕ = o.table in
    let hx : x < 64 = omega (arith, A.left, A.formed.most) in
    let hy : y < 64 = omega (arith, A.right, A.formed.most) in
    let X = extends_join (λ q. Reason q t (entry.Equation m) x y) x y (entry.Equation m) hx hy A.ready (λ q h. h) J in
    let why : Reason (offered s e) t (entry.Equation m) x y =
    rw (← B.lefts, ← B.rights) (equation m (found_last s.equations m e B.count)) in
    let small : (w : ℕ) → IsNode s w → w < 64 = λ w h. omega (arith, fits g s B.nodes A.formed) in
    verdict g (offered s e) A.formed B.nodes
    (proper_offered s B.proper e (rw B.lefts (known g s B.nodes x A.left)) (rw B.rights (known g s B.nodes y A.right)))
    W
    (W.extends.traced (offered s e) B.nodes (X.traced (offered s e) why (traced_offered s e B.traced)))
    (λ d h.
    ⊎_elim
    (λ q.
    let a = small d.left (B.proper.left_known d q) in
    let b = small d.right (B.proper.right_known d q) in
    W.extends.grows _ _ a b (X.grows _ _ a b (B.equated d q)))
    (λ q.
    ap (λ (z : Equation). class r z.left) (sym q) ∙ ap (class r) B.lefts
    ∙ W.extends.grows x y hx hy (joins_ends hx hy J)
    ∙ sym (ap (λ (z : Equation). class r z.right) (sym q) ∙ ap (class r) B.rights))
    (held_cases s e d h))
