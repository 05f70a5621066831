-- What the checker lends to the rules, in graph's terms.
--   Fit         counts within their limits, and an offer whose nodes are bytes: what the code asks; a well-shaped workspace
--               and an offer with known nodes have it (`shape_fit`)
--   claims_of   the claims that the code's structs hold
use Rattle.std.specs.Prelude.{◌≡◌, true, List, map, ◌≤◌}
use Rattle.std.proofs.Math.Option.{Option}
use Rattle.graph.specs.Limits.{node_limit, equation_limit}
use Rattle.graph.specs.State.{Equation}
use Rattle.graph.specs.Lines.{Claim}
use Rattle.store.specs.declared.Terms.{Terms}
use Rattle.store.specs.declared.Equations.{Equations}
use Rattle.proof_rules.specs.declared.Claim.{Claim as ClaimMade}
use Rattle.proof_rules.specs.Rules.{offer_below, claim_seen, WithinLimits}

pub record Fit (t : Terms) (e : Equations) (o : Option Equation) : Type 0 where
  pub terms : WithinLimits t
  pub equations : e.count ≤ equation_limit
  pub offer : offer_below node_limit o ≡ true

abbrev pub claims_of : List ClaimMade → List Claim
claims_of cs = map claim_seen cs
