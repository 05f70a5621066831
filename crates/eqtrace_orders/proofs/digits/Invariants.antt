-- `eqtrace_orders::digits` meets its contract: the bytes so far have the value v.
use Rattle.std.proofs.Common.{◌≡◌, ◌≤◌, drop}
use Rattle.eqtrace_orders.specs.Grammar.{digits_from}
use Rattle.eqtrace_orders.proofs.digits.Given as goal

abbrev pub invariant-loop-b : goal.invariant-loop-b
invariant-loop-b l = (l.v ≤ 65535) × (digits_from 0 l.word ≡ digits_from l.v (drop l.b-index l.word))
