-- `eqtrace_orders::collect` meets its contract: the words so far are numbers.
use Rattle.std.proofs.Common.{rules, tests, eqb, sym, ap, ◌∙◌, arith}
use Rattle.std.proofs.lemmas.Iterator.Consumers.{YieldsList-turn, YieldsList-end}
use Rattle.std.proofs.lemmas.Iterator.Splits.{YieldsList-from_slice_split}
use Rattle.std.proofs.lemmas.List.{length_push}
use Rattle.eqtrace_orders.specs.Parse.{six_of}
use Rattle.eqtrace_orders.proofs.WordLaws.{split_slice, found_none, found_some, reading_bad, reading_more, reading_all}
use Rattle.eqtrace_orders.proofs.collect.Goals as goal

pub returns-in_err-number : goal.returns-in_err-number
returns-in_err-number c =
    let t = YieldsList-turn (YieldsList-from_slice_split {s = c.into_iter-word-iterator.result} _ (λ b. eqb b 32) c.args.words.now (search rules) (search rules) (search rules) (λ x r q k. search (rules, tests))) c.loop-word.yielded _ c.loop-word.yielded_by _ _ c.in-Some.word c.in-Some.is c.next.ensures.steps in
    let w = rw (split_slice 32 c.args.words.now) at t in
    let z = reading_bad _ _ _ c.loop-word.invariant.3 _ w.0 w.1 (found_none _ (sym c.number.ensures ∙ c.in_err-number.was)) in
    c.from_residual.ensures ∙ sym (ap six_of z)

pub loop-word-preserved : goal.loop-word-preserved
loop-word-preserved c =
    let t = YieldsList-turn (YieldsList-from_slice_split {s = c.into_iter-word-iterator.result} _ (λ b. eqb b 32) c.args.words.now (search rules) (search rules) (search rules) (λ x r q k. search (rules, tests))) c.loop-word.yielded _ c.loop-word.yielded_by _ _ c.in-Some.word c.in-Some.is c.next.ensures.steps in
    let w = rw (split_slice 32 c.args.words.now) at t in
    (search rules, search rules, search rules, rw (length_push c.loop-word.yielded c.in-Some.word) (reading_more _ _ _ c.loop-word.invariant.3 _ w.0 w.1 _ (found_some _ _ (sym c.number.ensures ∙ c.in_ok-number.was)) _ (ap (λ v. v.items) c.push_if_room.ensures)))

pub returns : goal.returns
returns c =
    let t = YieldsList-end (YieldsList-from_slice_split {s = c.into_iter-word-iterator.result} _ (λ b. eqb b 32) c.args.words.now (search rules) (search rules) (search rules) (λ x r q k. search (rules, tests))) c.loop-word.yielded _ c.loop-word.yielded_by _ _ c.in-None.is c.next.ensures.steps in
    let w = rw (split_slice 32 c.args.words.now) at t in
    let R = c.loop-word.invariant.3 in
    let z = reading_all _ _ _ R (omega (arith, w.1)) in
    rw (R.six, c.loop-word.invariant.2) (sym (ap six_of z))
