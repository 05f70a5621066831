-- Claims that the code holds, read as graph's: what a lookup finds, and one claim more.
use Rattle.std.proofs.Common.{◌≡◌, refl, List, [], ◌∷◌, ◌++◌, ℕ, zero, suc, ◌+◌, ◌<◌, length, set, take, Some, None}
use Rattle.std.specs.Prelude.{Option as Answer}
use Rattle.std.specs.Option.{option_copied}
use Rattle.std.specs.Slice.{IsItemAt}
use Rattle.std.proofs.lemmas.List.{take_more_set, map-append}
use lib.ListN.{get_elem?}
use denote.Ref.{Bor}
use Rattle.proof_rules.specs.declared.Claim.{Claim as ClaimMade}
use Rattle.proof_rules.specs.Rules.{found, claim_seen, claimed}
use Rattle.proof_rules.proofs.LookupLaws.{item_found}
use Rattle.proof_claims.specs.Claims.{claims_of}

seen_at : (cs : List ClaimMade) (i : ℕ) (o : Answer ClaimMade) → found o ≡ get_elem? cs i → claimed o ≡ get_elem? (claims_of cs) i
seen_at [] i None q = refl
seen_at [] i (Some x) q = cc
seen_at (c ∷ cs) zero None q = cc
seen_at (c ∷ cs) zero (Some x) q = let e : x ≡ c = cc in rw e
seen_at (c ∷ cs) (suc i) o q = seen_at cs i o q

pub cited_is : (cs : List ClaimMade) (i : ℕ) (r : Answer (Bor ClaimMade)) → IsItemAt cs i r → claimed (option_copied r) ≡ get_elem? (claims_of cs) i
cited_is cs i r h = seen_at cs i (option_copied r) (item_found cs i r h)

-- one claim more: stored at n, after the first n
pub claims_more : (cs : List ClaimMade) (n : ℕ) (c : ClaimMade) → n < length cs
    → claims_of (take (n + 1) (set cs n c)) ≡ claims_of (take n cs) ++ (claim_seen c ∷ [])
claims_more cs n c h = rw (take_more_set cs n c h) (map-append claim_seen (take n cs) (c ∷ []))
