-- `solve_classes::relabel` meets its contract: the loop maps over the table in place.
use Rattle.std.proofs.Common.{ℕ, cond, eqb}
use Rattle.solve_classes.proofs.MapLaws.{Mapped}
use Rattle.solve_classes.proofs.relabel.Given as goal

abbrev pub swap : ℕ → ℕ → ℕ → ℕ
swap keep gone k = cond (eqb k gone) keep k

abbrev pub invariant-loop-x : goal.invariant-loop-x
invariant-loop-x l = Mapped (swap l.keep l.gone) l.initial.x-items l.x-index l.x-items
