-- Nodes that aren't declared are alone in a traced table.
use Prim.Native.Nat.{ℕ, ◌≤◌}
use mathlib.Core.List.{List}
use lib.ListN.{length}
use Rattle.graph.specs.State.{State, Proper}
use Rattle.solve_classes.specs.Members.{Alone}
use Rattle.solve_classes.proofs.MemberLaws.{alone_fresh, alone_merged}
use Rattle.solve_trace.specs.declared.Entry.{Entry}
use Rattle.solve_trace.specs.Trace.{Traced, start, merge}
use Rattle.solve_trace.proofs.TraceLaws.{reason_known, traced_table}

module _ (s : State) (P : Proper s) (few : length s.nodes ≤ 64) where
  pub traced_alone : {es : List Entry} {t : List ℕ} → Traced s es t → Alone (length s.nodes) t
  traced_alone (start {t} f) = alone_fresh (length s.nodes) t f
  traced_alone (merge es e {t} {r} {x} {y} p q n m) =
      let k = reason_known s P q in
      alone_merged (length s.nodes) t r x y few (traced_table s P p) k.0 k.1 m (traced_alone p)
