-- The equation of a name among the held ones and the offered one, by the first place where the name stands.
use mathlib.Core.Path.{◌≡◌, refl, sym, ap, ◌∙◌}
use mathlib.Core.Bool.{Bool, true, false, cond}
use mathlib.Core.List.{List, [], ◌∷◌, ◌++◌, append-nil}
use mathlib.Core.Option.{Option, none, some}
use Prim.Native.Nat.{ℕ, ◌≤◌, ◌<◌}
use lib.Dec.{eqb}
use lib.ListN.{get_or}
use Rattle.graph.specs.State.{Equation, extended}
use Rattle.graph.specs.Lines.{Claim, same, try, named, claim_of_equation, by_equation}
use Rattle.store.specs.Views.{equation_at, equations_of}
use Rattle.store.specs.Operations.{First}
use Rattle.store.proofs.FindLaws.{named_first, named_none}
use Rattle.store.specs.declared.Equations.{Equations}

-- the first of a name among es and fs: that of es, or, where es has none, that of fs
named_some : (es fs : List Equation) (x : ℕ) (e : Equation) → named es x ≡ some e → named (es ++ fs) x ≡ some e
named_some [] fs x e h = cc
named_some (d ∷ es) fs x e h = go (eqb d.name x) h (named_some es fs x e)
  where
    go : (b : Bool) → cond b (some d) (named es x) ≡ some e → (named es x ≡ some e → named (es ++ fs) x ≡ some e) → cond b (some d) (named (es ++ fs) x) ≡ some e
    go true q r = q
    go false q r = r q

named_past : (es fs : List Equation) (x : ℕ) → named es x ≡ none → named (es ++ fs) x ≡ named fs x
named_past [] fs x h = refl
named_past (d ∷ es) fs x h = go (eqb d.name x) h (named_past es fs x)
  where
    go : (b : Bool) → cond b (some d) (named es x) ≡ none → (named es x ≡ none → named (es ++ fs) x ≡ named fs x) → cond b (some d) (named (es ++ fs) x) ≡ named fs x
    go true q r = cc
    go false q r = r q

-- the offered equation stands after the held ones
after_held : (es : List Equation) (o : Option Equation) → extended es o ≡ es ++ extended [] o
after_held es none = sym (append-nil es)
after_held es (some e) = refl

module _ (e : Equations) (x r : ℕ) (o : Option Equation) (first : First e.name e.count x r) where
  held_then : (q : Option Equation) → named (equations_of e ++ extended [] o) x ≡ q → try q claim_of_equation ≡ by_equation (extended (equations_of e) o) x
  held_then q h = sym (ap (λ (es : List Equation). by_equation es x) (after_held (equations_of e) o) ∙ ap (λ (p : Option Equation). try p claim_of_equation) h)

  pub equation_held : r < e.count → some (same (get_or e.left r 0) (get_or e.right r 0)) ≡ by_equation (extended (equations_of e) o) x
  equation_held h = held_then (some (equation_at e r)) (named_some (equations_of e) (extended [] o) x (equation_at e r) (named_first e x r first h))

  pub equation_offered : e.count ≤ r → (a : Option Claim) → a ≡ by_equation (extended [] o) x → a ≡ by_equation (extended (equations_of e) o) x
  equation_offered h a d = d ∙ held_then (named (extended [] o) x) (named_past (equations_of e) (extended [] o) x (named_none e x r first h))
