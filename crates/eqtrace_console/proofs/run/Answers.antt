-- `eqtrace_console::run` meets its contract.
use Rattle.std.proofs.Common.{arith}
use Rattle.eqtrace_console.proofs.WrittenLaws.{answers_read}
use Rattle.eqtrace_console.proofs.run.Goals as goal

pub returns : goal.returns
returns g c = answers_read _ _ _ _ _ 65537 _ (omega arith) c.in_ok-n.ensures.bytes c.answer_all.ensures.written
