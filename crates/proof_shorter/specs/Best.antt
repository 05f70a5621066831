-- What is handed back is the best of two lists that pass: the claim that proofs/ChoiceLaws proves as `best`.
--   Best     one of the two, not empty, that passes and has no more lines than either
--   Picked   lists that pass are answered by such a one; and a part that isn't empty says that both pass
use Rattle.std.specs.Prelude.{◌≡◌, List, [], ◌⊎◌, ℕ, ◌≤◌}
use Rattle.std.proofs.Math.Option.{Option}
use Rattle.graph.specs.State.{State, Equation}
use Rattle.graph.specs.Goals.{Goal, passed}
use Rattle.unifier.specs.Check.{check_reply}
use Rattle.unifier.specs.Views.{state_of, Valid}
use Rattle.unifier.specs.declared.Workspace.{Workspace}
use Rattle.proof_shorter.specs.Choice.{line_count, shorter_of}
use Rattle.proof_shorter.specs.Promises.{Hands}

pub record Best (s : State) (o : Option Equation) (g : Goal) (a b r : List ℕ) : Type 0 where
  pub passes : check_reply s o g r ≡ passed
  pub one_of : (r ≡ a) ⊎ (r ≡ b)
  pub first : line_count r ≤ line_count a
  pub second : line_count r ≤ line_count b
  pub some : r ≡ [] → ⊥

pub record Picked (s : State) (o : Option Equation) (g : Goal) (a b : List ℕ) : Type 0 where
  pub best : check_reply s o g a ≡ passed → check_reply s o g b ≡ passed → Best s o g a b (shorter_of s o g a b)
  pub both : (shorter_of s o g a b ≡ [] → ⊥) → (check_reply s o g a ≡ passed) × (check_reply s o g b ≡ passed)

-- and so is what the code hands back, where it isn't empty
pub record Shorter : Type 0 where
  pub picked : (s : State) (o : Option Equation) (g : Goal) (a b : List ℕ) → Picked s o g a b
  pub handed : (w : Workspace) (o : Option Equation) (g : Goal) (a b r : List ℕ) → Valid w → Hands w o g a b r → (r ≡ [] → ⊥) → Best (state_of w) o g a b r
