-- Proof lines as data, what each claims, and the checker's walk over a list of them (document 01, "Proof lines").
--   Line          the fields of a line; `reserved` is the number in bytes 6 and 7
--   Claim         start and end, of kind same or below
--   rule_table    which fields a rule uses: document 01's one fixed table, a row for each of rules 1 to 6
--   tidy          fields that the rule doesn't use are zero
--   claim_of      what a line claims after the claims of the lines before it; none where it breaks its rule
--   line_claims   all claims of a list, or the number of the first line that breaks its rule
-- Rules 3, 4 and 5 (self, turned, joined) are reflexivity, symmetry and transitivity.
use Rattle.std.specs.Prelude.{Bool, true, false, ◌&&◌, ◌||◌, cond, List, [], ◌∷◌, ◌++◌, ℕ, zero, suc, length, get_or, eqb, ltb}
use Rattle.std.proofs.Math.Option.{Option, none, some}
use Rattle.std.proofs.Math.ListN.{get_elem?}
use Rattle.graph.specs.State.{Node, variable, functor, Equation, State}
use Rattle.graph.specs.Closure.{Same, Below}

pub record Line : Type 0 where
  pub rule : ℕ
  pub place : ℕ
  pub first : ℕ
  pub second : ℕ
  pub reserved : ℕ

pub data Claim : Type 0 where
  same : ℕ → ℕ → Claim
  below : ℕ → ℕ → Claim

-- a claim is true of the closure
abbrev pub Holds : State → Claim → Type 0
Holds s (same u v) = Same s u v
Holds s (below u v) = Below s u v

-- ---- lookups that may find nothing

abbrev pub try : {A B : Type 0} → Option A → (A → Option B) → Option B
try none f = none
try (some a) f = f a

abbrev pub need : {A : Type 0} → Bool → Option A → Option A
need true o = o
need false o = none

-- the first equation of that name
abbrev pub named : List Equation → ℕ → Option Equation
named [] n = none
named (e ∷ es) n = cond (eqb e.name n) (some e) (named es n)

pub record Functor : Type 0 where
  pub symbol : ℕ
  pub children : List ℕ

abbrev pub functor_of : Node → Option Functor
functor_of variable = none
functor_of (functor f cs) = some (record { symbol = f; children = cs })

abbrev pub functor_at : List Node → ℕ → Option Functor
functor_at ns u = try (get_elem? ns u) functor_of

-- the label test: `EqualLabels` as a Bool
abbrev pub equal_labels : Functor → Functor → Bool
equal_labels k m = eqb k.symbol m.symbol

-- the child at a place, counted from 1
abbrev pub place_at : List ℕ → ℕ → Option ℕ
place_at cs zero = none
place_at cs (suc i) = get_elem? cs i

-- ---- the six rules

abbrev pub claim_of_equation : Equation → Option Claim
claim_of_equation e = some (same e.left e.right)

abbrev pub by_equation : List Equation → ℕ → Option Claim
by_equation es n = try (named es n) claim_of_equation

abbrev pub by_child : List Node → ℕ → ℕ → Option Claim
by_child ns u p = try (functor_at ns u) (λ k. try (place_at k.children p) (λ v. some (below u v)))

abbrev pub by_reflexivity : List Node → ℕ → Option Claim
by_reflexivity ns u = need (ltb u (length ns)) (some (same u u))

abbrev pub symmetry_of : Claim → Option Claim
symmetry_of (same u v) = some (same v u)
symmetry_of (below u v) = none

abbrev pub by_symmetry : List Claim → ℕ → Option Claim
by_symmetry done i = try (get_elem? done i) symmetry_of

abbrev pub transitivity_of : Claim → Claim → Option Claim
transitivity_of (same u v) (same x y) = need (eqb v x) (some (same u y))
transitivity_of (same u v) (below x y) = need (eqb v x) (some (below u y))
transitivity_of (below u v) (same x y) = need (eqb v x) (some (below u y))
transitivity_of (below u v) (below x y) = need (eqb v x) (some (below u y))

abbrev pub by_transitivity : List Claim → ℕ → ℕ → Option Claim
by_transitivity done i j = try (get_elem? done i) (λ c. try (get_elem? done j) (transitivity_of c))

abbrev pub down_to : ℕ → Functor → Functor → Option Claim
down_to p k m = need (equal_labels k m) (try (place_at k.children p) (λ x. try (place_at m.children p) (λ y. some (same x y))))

abbrev pub down_of : List Node → ℕ → Claim → Option Claim
down_of ns p (same u v) = try (functor_at ns u) (λ k. try (functor_at ns v) (down_to p k))
down_of ns p (below u v) = none

abbrev pub by_down : List Node → List Claim → ℕ → ℕ → Option Claim
by_down ns done i p = try (get_elem? done i) (down_of ns p)

-- ---- the table of used fields

pub record Uses : Type 0 where
  pub first : Bool
  pub second : Bool
  pub place : Bool

abbrev pub uses : Bool → Bool → Bool → Uses
uses f s p = record { first = f; second = s; place = p }

abbrev pub rule_table : List Uses
rule_table =
    uses true false false ∷
    uses true false true ∷
    uses true false false ∷
    uses true false false ∷
    uses true true false ∷
    uses true false true ∷ []

-- the row of a rule; a number that is no rule uses no field
abbrev pub uses_of : ℕ → Uses
uses_of zero = uses false false false
uses_of (suc i) = get_or rule_table i (uses false false false)

abbrev pub used_or_zero : Bool → ℕ → Bool
used_or_zero used x = used || eqb x 0

unfoldable pub tidy : Line → Bool
tidy l =
    used_or_zero (uses_of l.rule).first l.first
    && (used_or_zero (uses_of l.rule).second l.second
    && (used_or_zero (uses_of l.rule).place l.place
    && eqb l.reserved 0))

-- ---- a line, and a list of lines

unfoldable pub by_rule : State → List Claim → Line → Option Claim
by_rule s done l =
    cond (eqb l.rule 1) (by_equation s.equations l.first)
    (cond (eqb l.rule 2) (by_child s.nodes l.first l.place)
    (cond (eqb l.rule 3) (by_reflexivity s.nodes l.first)
    (cond (eqb l.rule 4) (by_symmetry done l.first)
    (cond (eqb l.rule 5) (by_transitivity done l.first l.second)
    (cond (eqb l.rule 6) (by_down s.nodes done l.first l.place)
    none)))))

unfoldable pub claim_of : State → List Claim → Line → Option Claim
claim_of s done l = need (tidy l) (by_rule s done l)

-- all lines keep their rules, with these claims; or the number of the first that breaks its rule
pub data LineClaims : Type 0 where
  all : List Claim → LineClaims
  broken : ℕ → LineClaims

abbrev pub on_all : LineClaims → (List Claim → LineClaims) → LineClaims
on_all (all cs) f = f cs
on_all (broken k) f = broken k

-- one line more: its number is how many stand before it
abbrev pub more : List Claim → Option Claim → LineClaims
more done none = broken (length done)
more done (some c) = all (done ++ (c ∷ []))

abbrev pub line_claims : State → List Claim → List Line → LineClaims
line_claims s done [] = all done
line_claims s done (l ∷ ls) = on_all (more done (claim_of s done l)) (λ next. line_claims s next ls)
