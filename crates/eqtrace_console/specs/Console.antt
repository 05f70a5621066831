-- What is written for an input.
--   WritesAnswers   known bytes of a writer grow by what `Printed` says of an input
use Rattle.std.specs.Prelude.{List, ℕ, Option}
use Rattle.std.specs.Io.KnownBytes.{Appends}
use Rattle.unifier.specs.declared.Workspace.{Workspace}
use Rattle.eqtrace_session.specs.Transcript.{Printed}

pub record WritesAnswers (before after : Option (List ℕ)) (input : List ℕ) (w : Workspace) : Type 0 where
  pub output : List ℕ
  pub appended : Appends before after output
  pub printed : Printed input output w
