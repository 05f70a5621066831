-- `solve_classes::members` meets its contract: the set of the nodes passed, made in rising order.
use Rattle.std.proofs.Common.{◌≡◌}
use Rattle.solve_classes.specs.Members.{set_of, in_class}
use Rattle.solve_classes.proofs.members.Given as goal

abbrev pub invariant-loop-i : goal.invariant-loop-i
invariant-loop-i l = l.set ≡ set_of (in_class l.fn.table l.c) l.i
