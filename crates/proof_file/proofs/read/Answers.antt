-- `proof_file::read` meets its contract.
use Rattle.std.proofs.Common.{sym, ◌∙◌, arith}
use Rattle.proof_file.proofs.FileLaws.{readable_long, readable_lines, refused_lines}
use Rattle.proof_file.proofs.read.Goals as goal

pub returns-then-is_err : goal.returns-then-is_err
returns-then-is_err c = refused_lines _ _ c.read_reply.ensures (sym c.is_err.ensures.value ∙ c.if-is_err.true)

pub slice_bounds-result-count : goal.slice_bounds-result-count
slice_bounds-result-count c = omega (arith, readable_long _ _ c.read_reply.ensures (sym c.is_err.ensures.value ∙ c.if-is_err.false))

pub slice_bounds-result-start : goal.slice_bounds-result-start
slice_bounds-result-start c = omega (arith, readable_long _ _ c.read_reply.ensures (sym c.is_err.ensures.value ∙ c.if-is_err.false))

pub returns : goal.returns
returns c = readable_lines _ _ c.read_reply.ensures (sym c.is_err.ensures.value ∙ c.if-is_err.false)
