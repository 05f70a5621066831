-- The checker's definition cites only what the state holds.
--   passes_cites   each name that an equation line of a list that passes cites is held
use mathlib.Core.Path.{◌≡◌, refl, sym, subst}
use mathlib.Core.Bool.{Bool, true, false, cond}
use mathlib.Core.List.{List, [], ◌∷◌, ◌++◌}
use mathlib.Core.Option.{Option, none, some}
use Prim.Native.Nat.{ℕ, zero, suc}
use lib.Dec.{eqb}
use borrow.Author.Tests.{eq-eqb}
use Rattle.graph.specs.State.{Equation, State, name_held}
use Rattle.graph.specs.Lines.{Line, Claim, try, need, named, claim_of_equation, by_equation, tidy, by_rule, claim_of, LineClaims, all, broken, on_all, more, line_claims}
use Rattle.graph.specs.Goals.{Goal, ended, passed, judge_end, Passes, Cites}

-- Q where something is there
abbrev If : {A : Type 0} → Type 0 → Option A → Type 0
If Q none = Unit {0}
If Q (some a) = Q

named_known : (es : List Equation) (n : ℕ) (o : Option Claim) → try (named es n) claim_of_equation ≡ o → If (name_held n es ≡ true) o
named_known [] n none h = tt
named_known [] n (some c) h = cc
named_known (e ∷ es) n o h = go (eqb e.name n) o h (named_known es n o)
  where
    go : (t : Bool) (o : Option Claim) → try (cond t (some e) (named es n)) claim_of_equation ≡ o → (try (named es n) claim_of_equation ≡ o → If (name_held n es ≡ true) o)
        → If (cond t true (name_held n es) ≡ true) o
    go true none q r = tt
    go true (some c) q r = refl
    go false o q r = r q

module _ (s : State) where
  line_cites : (done : List Claim) (l : Line) → l.rule ≡ 1 → If (name_held l.first s.equations ≡ true) (claim_of s done l)
  unfolding claim_of by_rule
  line_cites done l e = go (tidy l)
    where
      z : by_rule s done l ≡ by_equation s.equations l.first
      z = rw (eq-eqb l.rule 1 e)

      go : (t : Bool) → If (name_held l.first s.equations ≡ true) (need t (by_rule s done l))
      go true = named_known s.equations l.first (by_rule s done l) (sym z)
      go false = tt

  -- the lines cite what is held, where all keep their rules
  IfCited : List Line → LineClaims → Type 0
  IfCited ls (all cs) = Cites s ls
  IfCited ls (broken k) = Unit {0}

  cites_more : (l : Line) (ls : List Line) → (l.rule ≡ 1 → name_held l.first s.equations ≡ true) → Cites s ls → Cites s (l ∷ ls)
  cites_more l ls h r zero m q e = let z : l ≡ m = cc in subst (λ (x : Line). x.rule ≡ 1 → name_held x.first s.equations ≡ true) z h e
  cites_more l ls h r (suc i) m q e = r i m q e

  cited_more : (l : Line) (ls : List Line) (r : LineClaims) → (l.rule ≡ 1 → name_held l.first s.equations ≡ true) → IfCited ls r → IfCited (l ∷ ls) r
  unfolding IfCited
  cited_more l ls (all cs) h r = cites_more l ls h r
  cited_more l ls (broken k) h r = tt

  lines_cite : (done : List Claim) (ls : List Line) → IfCited ls (line_claims s done ls)
  unfolding IfCited
  lines_cite done [] = λ i l h e. cc
  lines_cite done (l ∷ ls) = go (claim_of s done l) (line_cites done l) (λ next. lines_cite next ls)
    where
      go : (o : Option Claim) → (l.rule ≡ 1 → If (name_held l.first s.equations ≡ true) o) → ((next : List Claim) → IfCited ls (line_claims s next ls))
          → IfCited (l ∷ ls) (on_all (more done o) (λ next. line_claims s next ls))
      go none h f = tt
      go (some c) h f = cited_more l ls (line_claims s (done ++ (c ∷ [])) ls) h (f (done ++ (c ∷ [])))

  pub passes_cites : (g : Goal) (ls : List Line) → Passes s g ls → Cites s ls
  unfolding IfCited
  passes_cites g ls h = let q : judge_end s.nodes g (ended (line_claims s [] ls)) ≡ passed = cc in go (line_claims s [] ls) q (lines_cite [] ls)
    where
      go : (r : LineClaims) → judge_end s.nodes g (ended r) ≡ passed → IfCited ls r → Cites s ls
      go (all cs) q w = w
      go (broken k) q w = cc
