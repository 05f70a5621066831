-- A pen's lines and their claims, for a writer that adds to them.
--   ClaimAt      line i claims c
--   LinesClaim   the lines keep their rules, with these claims
--   More         lines that keep the claims so far, and line l among them claims c
use Rattle.std.specs.Prelude.{◌≡◌, List, [], ℕ, length}
use Rattle.std.proofs.Math.Option.{some}
use Rattle.std.proofs.Math.ListN.{get_elem?}
use Rattle.graph.specs.State.{State}
use Rattle.graph.specs.Lines.{Claim, all, line_claims}
use Rattle.proof_lines.specs.Codec.{first_lines}
use Rattle.write_runs.specs.declared.Pen.{Pen}

abbrev pub ClaimAt : List Claim → ℕ → Claim → Type 0
ClaimAt cs i c = get_elem? cs i ≡ some c

pub record LinesClaim (s : State) (p : Pen) (cs : List Claim) : Type 0 where
  pub count : length cs ≡ p.lines
  pub passes : line_claims s [] (first_lines p.lines p.buf.now) ≡ all cs

pub record More (s : State) (cs : List Claim) (q : Pen) (l : ℕ) (c : Claim) : Type 0 where
  pub claims : List Claim
  pub written : LinesClaim s q claims
  pub older : (i : ℕ) (d : Claim) → ClaimAt cs i d → ClaimAt claims i d
  pub last : ClaimAt claims l c
