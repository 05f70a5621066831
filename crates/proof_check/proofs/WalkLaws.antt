-- The checker's walk: what it has shown after i lines, and each way on.
use Rattle.std.proofs.Common.{◌≡◌, refl, sym, ap, ◌∙◌, List, [], ◌∷◌, ◌++◌, ℕ, suc, ◌+◌, ◌-◌, ◌/◌, ◌≤◌, ◌<◌, length, take, get_or, set, arith, Some}
use Rattle.std.proofs.Math.Option.{Option, none, some}
use Rattle.std.proofs.lemmas.List.{map-append, length-map}
use lib.ListN.{length-set}
use lib.Seq.{take_all, take-suc, length-take-le}
use Rattle.graph.specs.State.{State}
use Rattle.graph.specs.Lines.{Line, Claim, claim_of, LineClaims, all, broken, on_all, more, line_claims}
use Rattle.graph.specs.Goals.{ends as endsIn, breaks, ended}
use Rattle.graph.proofs.AppendLaws.{checked_one_more, checked_stop, last_snoc}
use Rattle.proof_lines.specs.declared.Line.{Line as LineRead}
use Rattle.proof_lines.specs.Codec.{line_at, lines_of}
use Rattle.proof_lines.specs.Reading.{line_seen, decoded}
use Rattle.proof_lines.proofs.Decoding.{lines_length, lines_at, decoded_line}
use Rattle.proof_rules.specs.declared.Claim.{Claim as ClaimMade}
use Rattle.proof_rules.specs.Rules.{claim_seen}
use Rattle.proof_claims.specs.Claims.{claims_of}
use Rattle.proof_claims.proofs.ClaimLaws.{claims_more}

pub record Walking (s : State) (bs : List ℕ) (claims : List ClaimMade) (i : ℕ) : Type 0 where
  pub long : length claims ≡ 8192
  pub so_far : line_claims s [] (take i (lines_of bs)) ≡ all (claims_of (take i claims))

module _ (s : State) (bs : List ℕ) (claims : List ClaimMade) where
  pub walking_none : length claims ≡ 8192 → Walking s bs claims 0
  walking_none e = record { long = e; so_far = refl }

  module _ (i : ℕ) (w : Walking s bs claims i) (few : i < 8192) (l : LineRead) (d : decoded bs i ≡ Some l) where
    -- o is what the line claims
    step : (o : Option Claim) → o ≡ claim_of s (claims_of (take i claims)) (line_seen l)
        → line_claims s [] (take (i + 1) (lines_of bs)) ≡ more (claims_of (take i claims)) o
    step o e =
        let h = decoded_line bs i l d in
        checked_one_more s (lines_of bs) i (line_at bs i) (omega (arith, h.0, lines_length bs))
        ∙ ap (λ (r : LineClaims). on_all r (λ done. more done (claim_of s done (get_or (lines_of bs) i (line_at bs i))))) w.so_far
        ∙ ap (λ (k : Line). more (claims_of (take i claims)) (claim_of s (claims_of (take i claims)) k)) (lines_at bs i (line_at bs i) h.0 ∙ sym h.1)
        ∙ ap (more (claims_of (take i claims))) (sym e)

    pub walking_broken : none ≡ claim_of s (claims_of (take i claims)) (line_seen l) → breaks i ≡ ended (line_claims s [] (lines_of bs))
    walking_broken e =
        let n : length (claims_of (take i claims)) ≡ i = length-map (take i claims) claim_seen ∙ length-take-le i claims (omega (arith, w.long)) in
        sym (ap ended (checked_stop s (lines_of bs) (i + 1) i (step none e ∙ ap broken n)))

    pub walking_more : (c : ClaimMade) → some (claim_seen c) ≡ claim_of s (claims_of (take i claims)) (line_seen l) → Walking s bs (set claims i c) (i + 1)
    walking_more c e = record {
      long = length-set claims i c ∙ w.long;
      so_far = step (some (claim_seen c)) e ∙ ap all (sym (claims_more claims i c (omega (arith, w.long))));
    }

  -- after the last line
  pub walking_end : (i : ℕ) (d : ClaimMade) → Walking s bs claims i → i ≡ length bs / 8 → 0 < i → i ≤ 8192
      → endsIn (claim_seen (get_or claims (length bs / 8 - 1) d)) ≡ ended (line_claims s [] (lines_of bs))
  walking_end i d w at some_line few =
      let one : i ≡ suc (i - 1) = omega arith in
      let all_lines : take i (lines_of bs) ≡ lines_of bs = take_all i (lines_of bs) (omega (arith, lines_length bs)) in
      let kept : take i claims ≡ take (i - 1) claims ++ (get_or claims (i - 1) d ∷ []) = ap (λ j. take j claims) one ∙ take-suc claims (i - 1) d (omega (arith, w.long)) in
      let q : line_claims s [] (lines_of bs) ≡ all (claims_of (take (i - 1) claims) ++ (claim_seen (get_or claims (i - 1) d) ∷ [])) =
      ap (line_claims s []) (sym all_lines) ∙ w.so_far ∙ ap all (ap claims_of kept ∙ map-append claim_seen (take (i - 1) claims) _) in
      let last : length bs / 8 - 1 ≡ i - 1 = omega arith in
      rw last (sym (ap ended q ∙ last_snoc (claims_of (take (i - 1) claims)) (claim_seen (get_or claims (i - 1) d))))
