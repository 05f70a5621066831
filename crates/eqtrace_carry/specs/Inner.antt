-- What the parts of carrying out an order ask of each other.
--   brought_lines, stance_lines   how many proof lines come with a refusal, and with how two nodes stand
--   stance_answered   what is said of how two nodes stand, with the names that it cites
--   Means     the code's answer is what is said
--   CitesIn   these names are cited by the first n lines; none where there is no line
--   Telling   an answer's text, with the names cited beside it
use Rattle.std.specs.Prelude.{◌≡◌, List, [], ℕ, ◌≤◌, length}
use Rattle.proof_lines.specs.Codec.{first_lines}
use Rattle.proof_cited.specs.Cited.{CitedRising}
use Rattle.unifier.specs.declared.Workspace.{Workspace}
use Rattle.refusals.specs.Numbers.{Brought, nothing, proof, place}
use Rattle.unifier_respond.specs.declared.Standing.{Standing}
use Rattle.unifier_respond.specs.declared.Standing.TheVariants as stands
use Rattle.eqtrace_answers.specs.Text.{Output, same, below, above, apart}
use Rattle.eqtrace_script.specs.Script.{refuses}
use Rattle.eqtrace_answers.specs.Puts.{meant, Small, Says}
use Rattle.eqtrace_answers.specs.declared.Answer.{Answer as Code}
use Rattle.graph.specs.Limits.{line_limit}
use Rattle.eqtrace_carry.specs.declared.Carried.{Carried}

abbrev pub brought_lines : Brought → ℕ
brought_lines nothing = 0
brought_lines (proof n) = n
brought_lines (place i) = 0

abbrev pub stance_lines : Standing → ℕ
stance_lines (stands.Same n) = n
stance_lines (stands.Below n) = n
stance_lines (stands.Above n) = n
stance_lines stands.Apart = 0

abbrev pub stance_answered : Standing → List ℕ → Output
stance_answered (stands.Same n) ns = same ns
stance_answered (stands.Below n) ns = below ns
stance_answered (stands.Above n) ns = above ns
stance_answered stands.Apart ns = apart

pub record Means (says : List ℕ → Output) (r : Code) : Type 0 where
  pub small : Small r
  pub means : (ns : List ℕ) → meant r ns ≡ says ns

pub record CitesIn (n : ℕ) (bytes cited : List ℕ) : Type 0 where
  pub few : length cited ≤ line_limit
  pub none : n ≡ 0 → cited ≡ []
  pub some : 1 ≤ n → CitedRising (first_lines n bytes) cited

pub record Telling (w : Workspace) (a : Code) (names old new : List ℕ) (r : Carried) : Type 0 where
  pub says : Says (meant a names) old new r.length
  pub refused_is : r.refused ≡ refuses (meant a names)
  pub workspace : r.workspace ≡ w
