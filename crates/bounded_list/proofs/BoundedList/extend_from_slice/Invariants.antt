-- `BoundedList::extend_from_slice` meets its contract: after k turns the first k values are at the end.
use Rattle.std.proofs.Common.{◌≡◌, ◌++◌, take}
use Rattle.bounded_list.specs.Bounded.{holding}
use Rattle.bounded_list.proofs.BoundedList.extend_from_slice.Given as goal

abbrev pub invariant-loop-x : goal.invariant-loop-x
invariant-loop-x g l = l.self ≡ holding (l.initial.self.items ++ take l.x-index l.xs) l.initial.self.blank
