-- The checker's answer, by its tests in turn, and its soundness.
use mathlib.Core.Path.{◌≡◌, refl, sym, ap, ◌∙◌}
use mathlib.Core.Bool.{Bool, true, false, cond}
use mathlib.Core.List.{List, []}
use Prim.Native.Nat.{ℕ, ◌*◌, ◌≤◌}
use lib.ListN.{length, take}
use lib.Seq.{length-take-le}
use Rattle.graph.specs.State.{State}
use Rattle.graph.specs.Lines.{Claim, line_claims}
use Rattle.graph.specs.Goals.{Goal, Meaning, shows, Ended, ends, ended, passed, refused, judge_end, judge, Passes, Cites}
use Rattle.graph.proofs.SoundLaws.{judge_sound}
use Rattle.graph.proofs.CitesLaws.{passes_cites}
use Rattle.proof_lines.specs.Codec.{lines_of}
use Rattle.proof_lines.specs.Proof.{ProofIn}
use Rattle.proof_lines.proofs.Decoding.{part_lines}
use Rattle.std.specs.Prelude.{Result, Ok, Err, IsErrAnd, MatchResult}
use Rattle.refusals.specs.declared.Refusal.{Refusal}
use Rattle.proof_rules.specs.declared.Claim.{Claim as ClaimMade}
use Rattle.proof_check.specs.Answers.{bad_length, answer_to}
use Rattle.proof_check.proofs.LengthLaws.{whole_length}

module _ (s : State) (g : Goal) (bs : List ℕ) where
  pub answer_bad : bad_length (length bs) ≡ true → refused 11 ≡ answer_to s g bs
  unfolding answer_to
  answer_bad e = rw e

  module _ (good : bad_length (length bs) ≡ false) where
    judges : judge s g (lines_of bs) ≡ answer_to s g bs
    unfolding answer_to
    judges = rw good

    -- r is how the code's walk ended
    pub answered : (r : Ended) → r ≡ ended (line_claims s [] (lines_of bs)) → judge_end s.nodes g r ≡ answer_to s g bs
    answered r w = ap (judge_end s.nodes g) w ∙ judges

    -- b is the code's answer to whether the last claim shows the goal
    pub answered_end : (c : Claim) (b : Bool) → b ≡ shows s.nodes g c → ends c ≡ ended (line_claims s [] (lines_of bs)) → cond b passed (refused 13) ≡ answer_to s g bs
    answered_end c b e w = rw e (answered (ends c) w)

-- how the walk ended, by what `map_err` made of it: P ties a refusal to the line that broke
pub walk_broken : (P : ℕ → Refusal → Type 0) (w : Result ClaimMade ℕ) (r : Result ClaimMade Refusal) (x : Refusal)
    → MatchResult w (λ c. r ≡ Ok c) (λ i. IsErrAnd r (P i)) → r ≡ Err x → (i : ℕ) × (w ≡ Err i) × P i x
walk_broken P (Ok c) r x m e = cc
walk_broken P (Err i) r x m e = (i, refl, rw e at m)

pub walk_through : (P : ℕ → Refusal → Type 0) (w : Result ClaimMade ℕ) (r : Result ClaimMade Refusal) (c : ClaimMade)
    → MatchResult w (λ c. r ≡ Ok c) (λ i. IsErrAnd r (P i)) → r ≡ Ok c → w ≡ Ok c
walk_through P (Ok b) r c m e = cc
walk_through P (Err i) r c m e = absurd (rw e at m)

-- what passes is judged so
module _ (s : State) (g : Goal) (bs : List ℕ) (e : answer_to s g bs ≡ passed) where
  pub check_passes : Passes s g (lines_of bs)
  unfolding answer_to
  check_passes = go (bad_length (length bs)) e
    where
      go : (b : Bool) → cond b (refused 11) (judge s g (lines_of bs)) ≡ passed → Passes s g (lines_of bs)
      go true q = cc
      go false q = q

  -- what passes is true of the closure of held and offered
  pub check_sound : Meaning s g
  check_sound = judge_sound s g (lines_of bs) check_passes

  -- its equation lines name held equations or the offered one
  pub check_cites : Cites s (lines_of bs)
  check_cites = passes_cites s g (lines_of bs) check_passes

-- lines that were proved to pass in a buffer pass the checker, handed their bytes
pub proof_passes : (s : State) (g : Goal) (n : ℕ) (before after : List ℕ) → ProofIn s g n before after → 8 * n ≤ length after → answer_to s g (take (8 * n) after) ≡ passed
proof_passes s g n before after p room =
    let good : bad_length (length (take (8 * n) after)) ≡ false = rw (length-take-le (8 * n) after room) (whole_length n p.some p.few) in
    sym (judges s g (take (8 * n) after) good) ∙ ap (judge s g) (part_lines n after room) ∙ p.passes
