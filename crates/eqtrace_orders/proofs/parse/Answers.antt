-- `eqtrace_orders::parse` meets its contract: by the line's first two bytes.
use Rattle.std.proofs.Common.{◌≡◌, get_or, sym, ap, ◌∙◌, arith, rules, tests}
use Rattle.eqtrace_orders.specs.Parse.{order_found}
use Rattle.eqtrace_orders.proofs.LetterLaws.{lone, no_letter, words_bad, words_read}
use Rattle.eqtrace_orders.proofs.parse.Goals as goal
use Rattle.eqtrace_orders.proofs.parse.Goals.{in_default-via-then-line-lt1, in_default-via-else-line-lt1+else-line-lt2+in_default-1}

pub returns-in-len1 : goal.returns-in-len1
returns-in-len1 c = c.by_letter.ensures ∙ sym (ap order_found (lone c.args.line.now (omega arith)))

pub returns-in_err-collect-in-32 : goal.returns-in_err-collect-in-32
returns-in_err-collect-in-32 c =
    let b : get_or c.args.line.now 1 0 ≡ 32 = omega arith in
    rw c.from_residual.ensures (words_bad c.args.line.now (omega arith) b (sym c.collect.ensures ∙ c.in_err-collect-in-32.was))

pub by_letter-requires-in-32 : goal.by_letter-requires-in-32
by_letter-requires-in-32 c =
    let b : get_or c.args.line.now 1 0 ≡ 32 = omega arith in
    rw c.as_slice.ensures.value (words_read c.args.line.now (omega arith) b _ (sym c.collect.ensures ∙ c.in_ok-collect-in-32.was)).0

pub returns-in_ok-collect-in-32 : goal.returns-in_ok-collect-in-32
returns-in_ok-collect-in-32 c =
    let b : get_or c.args.line.now 1 0 ≡ 32 = omega arith in
    rw (c.by_letter-in-32.ensures, c.as_slice.ensures.value) (words_read c.args.line.now (omega arith) b _ (sym c.collect.ensures ∙ c.in_ok-collect-in-32.was)).1

pub returns-in_default : goal.returns-in_default
returns-in_default c =
    elim c.in_default.branch [
      | in_default-via-then-line-lt1 w ↦ sym (ap order_found (no_letter c.args.line.now (λ n. absurd (search (rules, tests))) (λ n e. absurd (search (rules, tests)))))
      | in_default-via-else-line-lt1+else-line-lt2+in_default-1 w ↦ sym (ap order_found (no_letter c.args.line.now (λ n. absurd (search (rules, tests))) (λ n e. absurd (search (rules, tests)))))
    ]
