-- `eqtrace_answers::Draft::put_numbers` meets its contract: by the answer.
use Rattle.std.proofs.Common.{[], ◌∷◌, arith, ◌∙◌}
use Rattle.eqtrace_answers.proofs.PutLaws.{end_one, adds_headed, small_number}
use Rattle.eqtrace_answers.proofs.Draft.put_numbers.Goals as goal

pub put_names-requires-in-Refused : goal.put_names-requires-in-Refused
put_names-requires-in-Refused c =
    let p = c.put_number-in-Refused.ensures in
    omega (arith, end_one _ p, p.size)

pub put_number-requires-in-Unreadable-2 : goal.put_number-requires-in-Unreadable-2
put_number-requires-in-Unreadable-2 c =
    let p = c.put_number-in-Unreadable.ensures in
    (small_number _ _ c.in-Unreadable.is c.requires.0, omega (arith, end_one _ p, p.size))

pub returns-in-Refused : goal.returns-in-Refused
returns-in-Refused c =
    rw c.in-Refused.is (adds_headed _ _ _ (c.from-in-Refused.ensures ∙ c.number.ensures) (omega arith) c.put_number-in-Refused.ensures c.put_names-in-Refused.ensures)

pub returns-in-Unreadable : goal.returns-in-Unreadable
returns-in-Unreadable c =
    rw c.in-Unreadable.is
    (adds_headed _ _ (c.in-Unreadable.i ∷ []) (c.from-in-Unreadable.ensures ∙ c.number-in-Unreadable.ensures) (omega arith) c.put_number-in-Unreadable.ensures c.put_number-in-Unreadable-2.ensures)
