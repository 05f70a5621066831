-- Classes of known nodes.
--   under    the class of a child
--   IsClass  c is the root of a known node's class
use Rattle.std.specs.Prelude.{◌≡◌, List, ℕ, ◌<◌}
use Rattle.store.specs.Views.{child_at}
use Rattle.store.specs.declared.Terms.{Terms}
use Rattle.solve_classes.specs.Table.{class}

-- the class of the child of u at place j, counted from 0
abbrev pub under : Terms → List ℕ → ℕ → ℕ → ℕ
under g t u j = class t (child_at g u j)

pub record IsClass (g : Terms) (t : List ℕ) (c : ℕ) : Type 0 where
  pub known : c < g.count
  pub lowest : class t c ≡ c
