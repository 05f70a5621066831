-- `eqtrace_session::Cursor::too_long` meets its contract.
use mathlib.Core.List.{[]}
use Rattle.eqtrace_session.proofs.StepLaws.{said_too_long}
use Rattle.eqtrace_session.proofs.Cursor.too_long.Goals as goal

pub returns : goal.returns
returns c =
    said_too_long _ _ _ _ _ (c.unreadable-said.ensures [])
