-- A well-shaped workspace and an offer with known nodes meet what the checker asks.
use mathlib.Core.Path.{◌≡◌}
use mathlib.Core.Bool.{true}
use mathlib.Core.Option.{Option}
use native.Mathlib.Omega.{arith}
use Rattle.graph.specs.State.{Equation}
use Rattle.store.specs.Shape.{Shape}
use Rattle.store.specs.declared.Terms.{Terms}
use Rattle.store.specs.declared.Equations.{Equations}
use Rattle.proof_rules.specs.Rules.{offer_below}
use Rattle.proof_rules.proofs.OfferLaws.{offer_within}
use Rattle.proof_claims.specs.Claims.{Fit}

pub shape_fit : (t : Terms) (e : Equations) (o : Option Equation) → Shape t e → offer_below t.count o ≡ true → Fit t e o
shape_fit t e o s h = record {
  terms = record { nodes = s.terms.few; children = λ u k. s.terms.arities u (omega (arith, k, s.terms.few)) };
  equations = s.equations.few;
  offer = offer_within t.count 64 s.terms.few o h;
}
