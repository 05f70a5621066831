-- A run of effective merges, each of two nodes of different classes.
--   Merges   k effective merges lead from one table to another: at most 63 from a fresh one (proofs/CountLaws)
use Rattle.std.specs.Prelude.{◌≡◌, List, ℕ, suc, ◌<◌}
use Rattle.solve_classes.specs.Table.{class, Merged}

pub data Merges (t : List ℕ) : ℕ → List ℕ → Type 0 where
  start : Merges t 0 t
  merge : {k a b : ℕ} {r q : List ℕ} → Merges t k r → a < 64 → b < 64 → (class r a ≡ class r b → ⊥) → Merged r a b q → Merges t (suc k) q
