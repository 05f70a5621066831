-- `eqtrace_orders::collect` meets its contract: the words so far are numbers.
use Rattle.std.proofs.Common.{◌≡◌, length}
use Rattle.eqtrace_orders.specs.Grammar.{split}
use Rattle.eqtrace_orders.proofs.WordLaws.{Reading}
use Rattle.eqtrace_orders.proofs.collect.Given as goal

abbrev pub invariant-loop-word : goal.invariant-loop-word
invariant-loop-word l =
    (goal.iterator-loop-word).can_next l.word-iterator ×
    (goal.iterator-loop-word).is_finite l.word-iterator ×
    (l.numbers.blank ≡ 0) ×
    Reading (split 32 l.words) (length l.yielded) l.numbers.items
