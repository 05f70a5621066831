-- What the solver found of whole terms and equations, as the proof of it asks.
use mathlib.Core.Path.{◌≡◌, subst}
use mathlib.Core.List.{List}
use Prim.Native.Nat.{ℕ, ◌<◌}
use Rattle.base.proofs.ListLaws.{found_lt}
use Rattle.store.specs.Views.{nodes_of, state_from}
use Rattle.store.specs.declared.Terms.{Terms}
use Rattle.store.specs.declared.Equations.{Equations}
use Rattle.store.proofs.ViewLaws.{node_counted}
use Rattle.solve_trace.specs.declared.Entry.{Entry}
use Rattle.solve_heights.specs.declared.Heights.{Heights}
use Rattle.solve_heights.specs.Peel.{Peeled}
use Rattle.solve.specs.Decided.{Clashes, Circles, Because, LeftOver, Decided}
use Rattle.solve.specs.declared.SolveResult.{SolveResult}
use Rattle.solve.specs.declared.Finding.{Finding}
use Rattle.solve.specs.declared.Finding.TheVariants.{Clash, Cycle}
use Rattle.write_same.specs.Replay.{OneClass}
use Rattle.unifier_respond.specs.Shows.{TracedClosure}

module _ (t : Terms) (e : Equations) {r : SolveResult} {es : List Entry} (D : Decided (state_from t e) r es) where
  module _ (u w : ℕ) (q : r.verdict ≡ Clash u w) where
    pub found_clash : Clashes (state_from t e) r.table u w
    found_clash = subst (Because (state_from t e) r.table r.heights.height) q D.because

    pub clash_left : u < t.count
    clash_left = let c : Clashes (state_from t e) r.table u w = found_clash in node_counted t e u (found_lt (nodes_of t) u _ c.at_u)

    pub clash_right : w < t.count
    clash_right = let c : Clashes (state_from t e) r.table u w = found_clash in node_counted t e w (found_lt (nodes_of t) w _ c.at_v)

    pub one_class : OneClass (state_from t e) es u w
    one_class = record { table = r.table; traced = D.traced; joined = found_clash.joined }

  module _ (q : r.verdict ≡ Cycle) where
    pub found_cycle : Circles (state_from t e) r.table
    found_cycle = subst (Because (state_from t e) r.table r.heights.height) q D.because

    pub cycle_closure : TracedClosure (state_from t e) es r.table
    cycle_closure = record { traced = D.traced; exact = found_cycle.exact }

pub left_by_peel : (t : Terms) {table : List ℕ} {p : Heights} {v : Finding} → LeftOver t table p v → v ≡ Cycle → Peeled t table p
left_by_peel t {table} {p} l q = subst (LeftOver t table p) q l
