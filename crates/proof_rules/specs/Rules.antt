-- The answers of the code about one rule, in graph's terms.
--   found           an optional value as graph's lookups give one
--   offer_of        the offered equation, if there is one
--   both_below, offer_below   of n nodes, each named one is known
--   claim_by        a claim by its kind, start and end
--   claim_seen      the claim that the code's struct holds
--   claimed         the code's answer about a line, as a claim or none
--   symbol_in       the symbol of what a lookup found, as the code's optional value
--   functor_seen    the code's answer about a functor node, as graph's lookup gives one
--   labels_compared whether the labels of two nodes are equal, if both have one
--   WithinLimits    not too many nodes, and none with too many children
use Rattle.std.specs.Prelude.{Bool, true, ◌&&◌, ℕ, ◌≤◌, ◌<◌, ltb, Option as Answer, Some, None}
use Rattle.std.proofs.Math.Option.{Option, none, some}
use Rattle.graph.specs.Limits.{node_limit, child_limit}
use Rattle.graph.specs.State.{Equation, equation_of}
use Rattle.graph.specs.Lines.{Claim, same, below, Functor, equal_labels}
use Rattle.store.specs.Views.{arity_at}
use Rattle.store.specs.declared.Terms.{Terms}
use Rattle.proof_rules.specs.declared.Offer.{Offer}
use Rattle.proof_rules.specs.declared.ClaimKind.{ClaimKind}
use Rattle.proof_rules.specs.declared.ClaimKind.TheVariants.{Same, Below}
use Rattle.proof_rules.specs.declared.Claim.{Claim as ClaimMade}
use Rattle.proof_rules.specs.declared.Functor.{Functor as FunctorLent}

abbrev pub found : {A : Type 0} → Answer A → Option A
found None = none
found (Some a) = some a

abbrev pub offer_of : Answer Offer → Option Equation
offer_of None = none
offer_of (Some o) = some (equation_of o.name o.left o.right)

abbrev pub both_below : ℕ → ℕ → ℕ → Bool
both_below n u v = ltb u n && ltb v n

abbrev pub offer_below : ℕ → Option Equation → Bool
offer_below n none = true
offer_below n (some e) = both_below n e.left e.right

abbrev pub claim_by : ClaimKind → ℕ → ℕ → Claim
claim_by Same u v = same u v
claim_by Below u v = below u v

abbrev pub claim_seen : ClaimMade → Claim
claim_seen c = claim_by c.kind c.start c.end

abbrev pub claimed : Answer ClaimMade → Option Claim
claimed None = none
claimed (Some c) = some (claim_seen c)

abbrev pub symbol_in : Option Functor → Answer ℕ
symbol_in none = None
symbol_in (some k) = Some k.symbol

abbrev pub functor_seen : Answer FunctorLent → Option Functor
functor_seen None = none
functor_seen (Some k) = some (record { symbol = k.symbol; children = k.children.now })

abbrev pub labels_compared : Option Functor → Option Functor → Answer Bool
labels_compared none o = None
labels_compared (some k) none = None
labels_compared (some k) (some m) = Some (equal_labels k m)

pub record WithinLimits (t : Terms) : Type 0 where
  pub nodes : t.count ≤ node_limit
  pub children : (u : ℕ) → u < t.count → arity_at t u ≤ child_limit
