-- The claims of a list of lines with more lines at its end.
--   checked_append, checked_snoc   more lines, one line more
--   checked_claim, checked_stop    one that keeps its rule adds its claim, one that breaks it ends the list
--   checked_one_more               the first i + 1 lines, by the first i
use mathlib.Core.Path.{◌≡◌, refl, sym, ap, ◌∙◌}
use mathlib.Core.List.{List, [], ◌∷◌, ◌++◌}
use mathlib.Core.Option.{Option, some}
use Prim.Native.Nat.{ℕ, ◌+◌, ◌<◌}
use native.Mathlib.Numerals.{add-one}
use lib.ListN.{length, get_or, take, drop, take-append-drop}
use lib.Seq.{take-suc}
use Rattle.graph.specs.State.{State}
use Rattle.graph.specs.Lines.{Line, Claim, claim_of, LineClaims, all, broken, on_all, more, line_claims}
use Rattle.graph.specs.Goals.{ends, last_of}

on_on : (r : LineClaims) (f g : List Claim → LineClaims) → on_all (on_all r f) g ≡ on_all r (λ cs. on_all (f cs) g)
on_on (all cs) f g = refl
on_on (broken k) f g = refl

on_unit : (r : LineClaims) → on_all r (λ cs. all cs) ≡ r
on_unit (all cs) = refl
on_unit (broken k) = refl

on_same : (r : LineClaims) (f g : List Claim → LineClaims) → ((cs : List Claim) → f cs ≡ g cs) → on_all r f ≡ on_all r g
on_same (all cs) f g e = e cs
on_same (broken k) f g e = refl

module _ (s : State) where
  pub checked_append : (done : List Claim) (ls ms : List Line) → line_claims s done (ls ++ ms) ≡ on_all (line_claims s done ls) (λ next. line_claims s next ms)
  checked_append done [] ms = refl
  checked_append done (l ∷ ls) ms =
      on_same (more done (claim_of s done l)) (λ n. line_claims s n (ls ++ ms)) (λ n. on_all (line_claims s n ls) (λ next. line_claims s next ms)) (λ n. checked_append n ls ms)
      ∙ sym (on_on (more done (claim_of s done l)) (λ n. line_claims s n ls) (λ next. line_claims s next ms))

  pub checked_snoc : (done : List Claim) (ls : List Line) (l : Line) → line_claims s done (ls ++ (l ∷ [])) ≡ on_all (line_claims s done ls) (λ next. more next (claim_of s next l))
  checked_snoc done ls l =
      checked_append done ls (l ∷ [])
      ∙ on_same (line_claims s done ls) (λ next. line_claims s next (l ∷ [])) (λ next. more next (claim_of s next l)) (λ n. on_unit (more n (claim_of s n l)))

  -- a line that keeps its rule adds its claim
  pub checked_claim : (ls : List Line) (cs : List Claim) (l : Line) (c : Claim) → line_claims s [] ls ≡ all cs → claim_of s cs l ≡ some c
      → line_claims s [] (ls ++ (l ∷ [])) ≡ all (cs ++ (c ∷ []))
  checked_claim ls cs l c e h =
      checked_snoc [] ls l
      ∙ ap (λ (r : LineClaims). on_all r (λ next. more next (claim_of s next l))) e
      ∙ ap (λ (o : Option Claim). more cs o) h

  -- the first i + 1 lines of a list, by the first i
  pub checked_one_more : (ls : List Line) (i : ℕ) (d : Line) → i < length ls
      → line_claims s [] (take (i + 1) ls) ≡ on_all (line_claims s [] (take i ls)) (λ done. more done (claim_of s done (get_or ls i d)))
  checked_one_more ls i d k = rw (add-one, take-suc ls i d k) (checked_snoc [] (take i ls) (get_or ls i d))

  -- a line that breaks its rule ends it
  pub checked_stop : (ls : List Line) (i k : ℕ) → line_claims s [] (take i ls) ≡ broken k → line_claims s [] ls ≡ broken k
  checked_stop ls i k e =
      ap (line_claims s []) (sym (take-append-drop i ls))
      ∙ checked_append [] (take i ls) (drop i ls)
      ∙ ap (λ (r : LineClaims). on_all r (λ next. line_claims s next (drop i ls))) e

pub last_snoc : (cs : List Claim) (c : Claim) → last_of (cs ++ (c ∷ [])) ≡ ends c
last_snoc [] c = refl
last_snoc (x ∷ []) c = refl
last_snoc (x ∷ (y ∷ ys)) c = last_snoc (y ∷ ys) c
