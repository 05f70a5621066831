-- `eqtrace_answers::Draft::put_number` meets its contract: a space, then the digits.
use Rattle.std.proofs.Common.{◌≡◌, length, arith, ap, ◌∙◌}
use Rattle.eqtrace_answers.specs.Text.{decimal}
use Rattle.eqtrace_answers.proofs.PutLaws.{adds_spaced, number_length}
use Rattle.eqtrace_answers.proofs.Draft.put_number.Goals as goal

pub put_bytes-requires-2 : goal.put_bytes-requires-2
put_bytes-requires-2 c =
    let p = c.put_bytes.ensures in
    let l : length c.as_slice.result.now ≡ length (decimal c.args.n) = ap length (c.as_slice.ensures ∙ c.of-digits.ensures.digits) in
    omega (arith, p.puts.end, p.size, l, number_length c.args.n)

pub returns : goal.returns
returns c = adds_spaced c.args.n _ (c.as_slice.ensures ∙ c.of-digits.ensures.digits) (omega arith) c.put_bytes.ensures c.put_bytes-2.ensures
