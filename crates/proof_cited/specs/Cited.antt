-- Which equations a proof's last line rests on: the names cited by equation lines that the last line rests on.
--   citations    the lines that a line cites, by its rule and fields
--   Rests        the last line rests on line i: it is that line, or an earlier one that a line it rests on cites
--   Named        x is the name in an equation line that the last line rests on
--   CitedTable   a table that is true at each such name, and at no other number
--   CitedRising  a list of those names, rising, so each stands there once
use Rattle.std.specs.Prelude.{◌≡◌, Bool, true, false, cond, List, [], ◌∷◌, ℕ, suc, ◌<◌, length, get_or, eqb}
use Rattle.std.proofs.Math.Option.{some}
use Rattle.std.proofs.Math.ListN.{get_elem?}
use Rattle.graph.specs.Lines.{Line}

-- rules 4 and 6 cite one line, rule 5 two
unfoldable pub citations : ℕ → ℕ → ℕ → List ℕ
citations rule first second =
    cond (eqb rule 4) (first ∷ []) (cond (eqb rule 5) (first ∷ second ∷ []) (cond (eqb rule 6) (first ∷ []) []))

abbrev pub In : ℕ → List ℕ → Type 0
In i l = (p : ℕ) × (get_elem? l p ≡ some i)

pub data Rests (ls : List Line) : ℕ → Type 0 where
  itself : {i : ℕ} → suc i ≡ length ls → Rests ls i
  through : {i j : ℕ} (l : Line) → Rests ls j → get_elem? ls j ≡ some l → i < j → In i (citations l.rule l.first l.second) → Rests ls i

pub record Named (ls : List Line) (x : ℕ) : Type 0 where
  pub at : ℕ
  pub line : Line
  pub rests : Rests ls at
  pub there : get_elem? ls at ≡ some line
  pub by_equation_lem : line.rule ≡ 1
  pub name : line.first ≡ x

pub record CitedTable (ls : List Line) (seen : List Bool) : Type 0 where
  pub only : (x : ℕ) → get_or seen x false ≡ true → Named ls x
  pub every : (x : ℕ) → Named ls x → get_or seen x false ≡ true

pub record CitedRising (ls : List Line) (names : List ℕ) : Type 0 where
  pub only : (i : ℕ) → i < length names → Named ls (get_or names i 0)
  pub every : (x : ℕ) → Named ls x → (i : ℕ) × (i < length names) × (get_or names i 0 ≡ x)
  pub rising : (i j : ℕ) → i < j → j < length names → get_or names i 0 < get_or names j 0
