-- `solve_heights::Peeler::stuck` meets its contract: the children so far lie in classes that went.
use Rattle.std.proofs.Common.{◌≡◌, ℕ, ◌<◌}
use Rattle.std.specs.Prelude.{None}
use Rattle.store.specs.Views.{lent_terms}
use Rattle.solve_heights.specs.Nodes.{under}
use Rattle.solve_heights.specs.Peel.{height_at}
use Rattle.solve_heights.proofs.Peeler.stuck.Given as goal

abbrev pub invariant-loop-x : goal.invariant-loop-x
invariant-loop-x l = (i : ℕ) → i < l.x-index → height_at l.self.height (under (lent_terms l.t) l.table l.u i) ≡ None → ⊥
