-- `proof_lines::put_line` meets its contract.
use Rattle.std.proofs.Common.{arith}
use Rattle.proof_lines.proofs.Bytes.{put}
use Rattle.proof_lines.proofs.put_line.Goals as goal

pub returns : goal.returns
returns c =
    rw (c.to_be_bytes-first.ensures, c.to_be_bytes-second.ensures)
    (put c.args.buf.now c.args.n c.args.l.rule c.args.l.place c.args.l.first c.args.l.second (omega arith) (omega arith) (omega arith))
