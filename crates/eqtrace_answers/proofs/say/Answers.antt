-- `eqtrace_answers::say` meets its contract: the word, the numbers, the line break.
use Rattle.std.proofs.Common.{arith, refl, rules}
use Rattle.eqtrace_answers.proofs.PutLaws.{says_line, end_letters, end_numbers}
use Rattle.eqtrace_answers.proofs.say.Goals as goal

pub put_bytes-requires-2 : goal.put_bytes-requires-2
put_bytes-requires-2 c =
    let p = c.put_bytes.ensures in
    let q = c.put_numbers.ensures in
    omega (arith, p.puts.end, q.puts.end, p.size, q.size, end_letters _ _ c.word.ensures, end_numbers c.args.answer c.args.names.now)

pub returns : goal.returns
returns c =
    says_line c.args.answer c.args.names.now _ c.word.ensures refl c.put_bytes.ensures c.put_numbers.ensures c.put_bytes-2.ensures (search rules)
