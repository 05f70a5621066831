-- What a call that isn't refused has shown, and what such calls keep.
--   nodes_full .. equations_full        what the lists refuse, by number, in document 01's order
--   declare_accepted, equate_accepted   what is known past that
--   answer_keeps, runs_keep             a property that accepted calls keep is kept by every answer and every list of calls
use mathlib.Core.Path.{◌≡◌, refl}
use mathlib.Core.Bool.{Bool, true, false, ◌&&◌}
use mathlib.Core.List.{List}
use mathlib.Core.Option.{Option, none, some}
use Prim.Native.Nat.{ℕ, zero, suc, ◌≤◌, ◌<◌}
use native.Mathlib.Omega.{arith}
use lib.ListN.{length}
use lib.Dec.{ltb, leb}
use borrow.Author.Tests.{ltb-true, ltb-false, leb-false, ne_eqb}
use Rattle.graph.specs.Limits.{node_limit, child_limit, equation_limit, buffer_bytes}
use Rattle.graph.specs.State.{Node, Equation, State, name_held}
use Rattle.graph.specs.Book.{Call, declare, equate, Transition, all_below, children_of, node_fits, early, Late, Else, Refusal, accepted, answer, Runs, over, step}
use Rattle.std.proofs.lemmas.Bool.{and_parts}

-- a call that the lists refuse is refused
refused_so : (o : Option ℕ) (L : ℕ → Type 0) (n : ℕ) → o ≡ some (suc n) → Else o L 0 → ⊥
refused_so none L n e v = cc
refused_so (some m) L n e v = let q : m ≡ suc n = cc in omega arith

-- when declare is refused by the lists, in document 01's order
module _ (s : State) (n : Node) where
  pub nodes_full : leb node_limit (length s.nodes) ≡ true → early s (declare n) ≡ some 2
  nodes_full f = cc

  pub children_many : leb node_limit (length s.nodes) ≡ false → ltb child_limit (length (children_of n)) ≡ true → early s (declare n) ≡ some 3
  children_many f m = cc

  pub child_unknown : leb node_limit (length s.nodes) ≡ false → ltb child_limit (length (children_of n)) ≡ false → all_below (length s.nodes) (children_of n) ≡ false
      → early s (declare n) ≡ some 4
  child_unknown f m k = cc

  pub arity_differs : leb node_limit (length s.nodes) ≡ false → ltb child_limit (length (children_of n)) ≡ false → all_below (length s.nodes) (children_of n) ≡ true
      → node_fits n s.nodes ≡ false → early s (declare n) ≡ some 18
  arity_differs f m k a = cc

-- and when equate is
module _ (s : State) (e : Equation) (room : ℕ) where
  abbrev known : Bool
  known = ltb e.left (length s.nodes) && ltb e.right (length s.nodes)

  pub buffer_short : ltb room buffer_bytes ≡ true → early s (equate e room) ≡ some 5
  buffer_short b = cc

  pub end_unknown : ltb room buffer_bytes ≡ false → known ≡ false → early s (equate e room) ≡ some 4
  end_unknown b k = cc

  pub name_held_lem : ltb room buffer_bytes ≡ false → known ≡ true → name_held e.name s.equations ≡ true → early s (equate e room) ≡ some 6
  name_held_lem b k n = cc

  pub equations_full : ltb room buffer_bytes ≡ false → known ≡ true → name_held e.name s.equations ≡ false → leb equation_limit (length s.equations) ≡ true
      → early s (equate e room) ≡ some 7
  equations_full b k n f = cc

module _ (s : State) where
  pub record Declared (n : Node) : Type 0 where
    pub room : length s.nodes < node_limit
    pub few : length (children_of n) ≤ child_limit
    pub known : all_below (length s.nodes) (children_of n) ≡ true
    pub fits : node_fits n s.nodes ≡ true

  pub declare_accepted : (n : Node) → Refusal s (declare n) 0 → Declared n
  declare_accepted n v = go (leb node_limit (length s.nodes)) (ltb child_limit (length (children_of n))) (all_below (length s.nodes) (children_of n)) (node_fits n s.nodes) refl refl refl refl
    where
      no : (k : ℕ) → early s (declare n) ≡ some (suc k) → ⊥
      no k e = refused_so (early s (declare n)) (Late s (declare n)) k e v

      go : (f m k a : Bool) → leb node_limit (length s.nodes) ≡ f → ltb child_limit (length (children_of n)) ≡ m → all_below (length s.nodes) (children_of n) ≡ k
          → node_fits n s.nodes ≡ a → Declared n
      go true m k a p q r t = absurd (no 1 (nodes_full s n p))
      go false true k a p q r t = absurd (no 2 (children_many s n p q))
      go false false false a p q r t = absurd (no 3 (child_unknown s n p q r))
      go false false true false p q r t = absurd (no 17 (arity_differs s n p q r t))
      go false false true true p q r t =
          record { room = leb-false node_limit (length s.nodes) p; few = ltb-false child_limit (length (children_of n)) q; known = r; fits = t }

  pub record Equated (e : Equation) (room : ℕ) : Type 0 where
    pub buffer : buffer_bytes ≤ room
    pub left_known : e.left < length s.nodes
    pub right_known : e.right < length s.nodes
    pub fresh : name_held e.name s.equations ≡ false
    pub place : length s.equations < equation_limit

  pub equate_accepted : (e : Equation) (room : ℕ) → Refusal s (equate e room) 0 → Equated e room
  equate_accepted e room v = go (ltb room buffer_bytes) (known s e room) (name_held e.name s.equations) (leb equation_limit (length s.equations)) refl refl refl refl
    where
      no : (k : ℕ) → early s (equate e room) ≡ some (suc k) → ⊥
      no k q = refused_so (early s (equate e room)) (Late s (equate e room)) k q v

      go : (b k n f : Bool) → ltb room buffer_bytes ≡ b → known s e room ≡ k → name_held e.name s.equations ≡ n → leb equation_limit (length s.equations) ≡ f → Equated e room
      go true k n f p q r t = absurd (no 4 (buffer_short s e room p))
      go false false n f p q r t = absurd (no 3 (end_unknown s e room p q))
      go false true true f p q r t = absurd (no 5 (name_held_lem s e room p q r))
      go false true false true p q r t = absurd (no 6 (equations_full s e room p q r t))
      go false true false false p q r t = record {
        buffer = ltb-false room buffer_bytes p;
        left_known = ltb-true _ _ (and_parts _ _ q).0;
        right_known = ltb-true _ _ (and_parts _ _ q).1;
        fresh = r;
        place = leb-false equation_limit (length s.equations) t;
      }

-- a property of states that accepted calls keep is kept by every answer, and by every list of calls
module _ (P : State → Type 0) (kept : (s : State) → P s → (c : Call) → Refusal s c 0 → P (accepted s c).state) where
  pub answer_keeps : (s : State) → P s → (c : Call) (k : ℕ) → Refusal s c k → P (answer s c k).state
  answer_keeps s p c zero v = kept s p c v
  answer_keeps s p c (suc k) v = rw (ne_eqb (suc k) 0 (λ e. omega arith)) p

  pub runs_keep : {s d : State} {cs : List Call} {rs : List Transition} → P s → Runs s cs rs d → P d
  runs_keep p over = p
  runs_keep p (step {s} {d} {c} k v r) = runs_keep (answer_keeps s p c k v) r
