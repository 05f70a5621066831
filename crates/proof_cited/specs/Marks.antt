-- What one step of the marking stores, and what the tables hold after all of them.
--   mark_one, mark_all   the lines that line k cites are marked, where they come before it
--   see_one      the name of an equation line is noted
--   block_one    and so is its block: names 64 b to 64 b + 63 are block b
--   block_size   64
--   Visited      what line k says was marked and noted, and nothing else
--   Blank        nothing is marked or noted
--   trues        how many entries are true
--   Listable     both tables note the same names, at most 8,192
--   NamesNoted   and these are the cited ones
--   Listing      the first n of a list are the noted names below x, rising
--   Listed       the first n of a list are the noted names, rising
use Rattle.std.specs.Prelude.{◌≡◌, Bool, true, false, cond, List, [], ◌∷◌, ℕ, suc, ◌/◌, ◌≤◌, ◌<◌, length, take, set, get_or, eqb, ltb}
use Rattle.graph.specs.Limits.{line_limit}
use Rattle.graph.specs.Lines.{Line}
use Rattle.proof_cited.specs.Cited.{citations, CitedTable}
use Rattle.proof_cited.specs.declared.Marker.{Marker}

unfoldable pub mark_one : List Bool → ℕ → ℕ → List Bool
mark_one m k a = cond (ltb a k) (set m a true) m

abbrev pub mark_all : List Bool → ℕ → List ℕ → List Bool
mark_all m k [] = m
mark_all m k (a ∷ l) = mark_all (mark_one m k a) k l

unfoldable pub see_one : List Bool → ℕ → ℕ → List Bool
see_one s rule first = cond (eqb rule 1) (set s first true) s

abbrev pub block_size : ℕ
block_size = 64

abbrev pub block_one : List Bool → ℕ → ℕ → List Bool
block_one b rule first = see_one b rule (first / block_size)

pub record Visited (m : Marker) (k : ℕ) (l : Line) (after : Marker) : Type 0 where
  pub lines : after.lines ≡ mark_all m.lines k (citations l.rule l.first l.second)
  pub names : after.names ≡ see_one m.names l.rule l.first
  pub blocks : after.blocks ≡ block_one m.blocks l.rule l.first

pub record Blank (m : Marker) : Type 0 where
  pub lines : (i : ℕ) → get_or m.lines i false ≡ false
  pub names : (x : ℕ) → get_or m.names x false ≡ false
  pub blocks : (b : ℕ) → get_or m.blocks b false ≡ false

abbrev pub trues : List Bool → ℕ
trues [] = 0
trues (x ∷ l) = cond x (suc (trues l)) (trues l)

pub record Listable (m : Marker) : Type 0 where
  pub blocked : (x : ℕ) → get_or m.names x false ≡ true → get_or m.blocks (x / block_size) false ≡ true
  pub few : trues m.names ≤ line_limit

pub record NamesNoted (ls : List Line) (m : Marker) : Type 0 where
  pub table : CitedTable ls m.names
  pub tables : Listable m

pub record Listing (seen : List Bool) (names : List ℕ) (n x : ℕ) : Type 0 where
  pub room : line_limit ≤ length names
  pub few : trues seen ≤ line_limit
  pub counted : n ≤ trues (take x seen)
  pub only : (i : ℕ) → i < n → get_or seen (get_or names i 0) false ≡ true
  pub lower : (i : ℕ) → i < n → get_or names i 0 < x
  pub every : (y : ℕ) → y < x → get_or seen y false ≡ true → (i : ℕ) × (i < n) × (get_or names i 0 ≡ y)
  pub rising : (i j : ℕ) → i < j → j < n → get_or names i 0 < get_or names j 0

pub record Listed (seen : List Bool) (names : List ℕ) (n : ℕ) : Type 0 where
  pub only : (i : ℕ) → i < n → get_or seen (get_or names i 0) false ≡ true
  pub every : (x : ℕ) → get_or seen x false ≡ true → (i : ℕ) × (i < n) × (get_or names i 0 ≡ x)
  pub rising : (i j : ℕ) → i < j → j < n → get_or names i 0 < get_or names j 0
  pub fits : n ≤ length names
  pub few : n ≤ line_limit
