-- A proof in a lent buffer.
--   Kept      the bytes past the first n lines are as they were
--   Concludes the first n lines keep their rules, and the last claims c
--   ProofIn   the first n lines, 1 to 8,192 of them, pass for a goal, and the bytes past them are as they were
use Rattle.std.specs.Prelude.{◌≡◌, List, [], ℕ, ◌*◌, ◌≤◌, length, get_or}
use Rattle.graph.specs.Limits.{line_limit}
use Rattle.graph.specs.State.{State}
use Rattle.graph.specs.Lines.{Claim, line_claims}
use Rattle.graph.specs.Goals.{Goal, Passes, ended, ends}
use Rattle.proof_lines.specs.Codec.{first_lines}

pub record Kept (n : ℕ) (before after : List ℕ) : Type 0 where
  pub size : length after ≡ length before
  pub past : (i : ℕ) → 8 * n ≤ i → get_or after i 0 ≡ get_or before i 0

abbrev pub Concludes : State → Claim → ℕ → List ℕ → Type 0
Concludes s c n bytes = ended (line_claims s [] (first_lines n bytes)) ≡ ends c

pub record ProofIn (s : State) (g : Goal) (n : ℕ) (before after : List ℕ) : Type 0 where
  pub some : 1 ≤ n
  pub few : n ≤ line_limit
  pub passes : Passes s g (first_lines n after)
  pub kept : Kept n before after
