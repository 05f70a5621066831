-- A way up: a list of steps, the lowest first, each by how the class of its low node was reached from u (specs/Reach of `solve_reach`).
--   pair_of     the two nodes of one class at the lower end of a step
--   upper       the node at the upper end of a way from v
--   Connected   the steps lead on from v: the low node of each is the parent of the one before
--   Noted       a step is the one by which the class of its low node was reached
--   OnNodes     its nodes are places of the arrays
--   OnTheWay    on the way: q is the node at its upper end, so far
--   Leads       the way leads from v to u's class
--   Top         the node of u's class at which a way down begins
use Rattle.std.specs.Prelude.{◌≡◌, ⊤, List, [], ◌∷◌, ℕ, ◌+◌, ◌≤◌, ◌<◌, length, Some}
use Rattle.std.specs.List.{All}
use Rattle.solve_classes.specs.Table.{class}
use Rattle.solve_reach.specs.declared.Down.{Down}
use Rattle.solve_reach.specs.declared.Search.{Search}
use Rattle.solve_reach.specs.Reach.{down_at}
use Rattle.write_below.specs.declared.Rung.{Rung}

abbrev pub pair_of : Rung → ℕ × ℕ
pair_of x = (x.down.into, x.low)

abbrev pub upper : ℕ → List Rung → ℕ
upper v [] = v
upper v (x ∷ xs) = upper x.down.parent xs

abbrev pub Connected : ℕ → List Rung → Type 0
Connected v [] = ⊤
Connected v (x ∷ xs) = (x.low ≡ v) × Connected x.down.parent xs

pub record Noted (t : List ℕ) (r : Search) (x : Rung) : Type 0 where
  pub small : x.low < 64
  pub step : down_at r (class t x.low) ≡ Some x.down

pub record OnNodes (x : Rung) : Type 0 where
  pub low : x.low < 64
  pub into : x.down.into < 64
  pub parent : x.down.parent < 64

abbrev pub AllOnNodes : List Rung → Type 0
AllOnNodes xs = All OnNodes xs

-- the step down into q's class has a level that leaves room for it and those to come
abbrev pub Goes : List ℕ → Search → ℕ → ℕ → Type 0
Goes t r q n = (x : Down) × ((down_at r (class t q) ≡ Some x) × (n + x.level ≤ 64))

pub record OnTheWay (t : List ℕ) (r : Search) (v : ℕ) (xs : List Rung) (q : ℕ) : Type 0 where
  pub connected : Connected v xs
  pub noted : All (Noted t r) xs
  pub here : upper v xs ≡ q
  pub small : q < 64
  pub goes : Goes t r q (length xs)

pub record Leads (t : List ℕ) (r : Search) (u v : ℕ) (xs : List Rung) : Type 0 where
  pub some_steps : 1 ≤ length xs
  pub few : length xs ≤ 64
  pub connected : Connected v xs
  pub noted : All (Noted t r) xs
  pub end : class t (upper v xs) ≡ class t u

-- p, in u's class, is the parent that leads to a class which was reached
pub record Top (t : List ℕ) (r : Search) (u p : ℕ) : Type 0 where
  pub d : ℕ
  pub down : Down
  pub small : d < 64
  pub reached : down_at r d ≡ Some down
  pub leads : down.parent ≡ p
  pub in_class_lem : class t p ≡ class t u
