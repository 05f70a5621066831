-- `store::Terms::put_children` meets its contract.
use Rattle.std.proofs.Common.{◌≡◌}
use lib.Seq.{paste}
use Rattle.store.specs.Views.{terms}
use Rattle.store.proofs.Terms.put_children.Given as goal

abbrev pub invariant-loop-j : goal.invariant-loop-j
invariant-loop-j l =
    let t = l.initial.self in
    l.self ≡ terms t.count t.kind t.symbol t.arity (paste t.child l.at l.children l.j)
