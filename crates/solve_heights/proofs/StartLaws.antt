-- The peel's start: nodes and classes counted, no class gone, no node released.
use mathlib.Core.Path.{◌≡◌, refl, sym, ◌∙◌, ap}
use mathlib.Core.Bool.{Bool, true, false, cond}
use mathlib.Core.Logic.{⊎_elim}
use mathlib.Core.List.{List}
use Prim.Native.Nat.{ℕ, ◌+◌, ◌≤◌, ◌<◌}
use native.Mathlib.Omega.{arith}
use mir.Val.{bool_byte}
use lib.Dec.{eqb}
use lib.ListN.{get_or, set, length-set, replicate, length-replicate, get_or-replicate}
use lib.Seq.{get_or-set_same, get_or-set_other}
use borrow.Author.Tests.{eq-eqb, ne_eqb}
use Rattle.std.specs.Prelude.{Option, None}
use Rattle.base.specs.Sum.{sum_to}
use Rattle.std.proofs.lemmas.Bool.{cases_eq}
use Rattle.base.proofs.SumLaws.{sum_none, sum_more, sum_at, sum_most}
use Rattle.store.specs.declared.Terms.{Terms}
use Rattle.solve_classes.specs.Table.{class, member_at, root, Table}
use Rattle.solve_trace.specs.Nodes.{Formed}
use Rattle.solve_heights.specs.Peel.{height_at, stays, left_at}
use Rattle.solve_heights.specs.Passes.{pending_at, wait_at, Peeling, Counted}
use Rattle.solve_heights.proofs.CountLaws.{sum_agree}
use Rattle.solve_heights.proofs.SummandLaws.{wait_in, root_most, class_low}

pub counted_none : (t : List ℕ) → Counted t 0 (replicate 64 0) 0
counted_none t =
    record {
      size = length-replicate {A = ℕ} 64 0;
      members = λ c l. get_or-replicate 64 c 0 0 l ∙ sym (sum_none (member_at t c));
      classes = sym (sum_none (root t));
    }

-- a test's reply as a number
pub root_told : (t : List ℕ) (c u n : ℕ) → c ≡ class t u → n ≡ bool_byte (eqb c u) → n ≡ root t u
root_told t c u n e f = f ∙ ap (λ (k : ℕ). bool_byte (eqb k u)) e ∙ byte (eqb _ u)
  where
    byte : (b : Bool) → bool_byte b ≡ cond b 1 0
    byte true = refl
    byte false = refl

pub counted_low : (t : List ℕ) (i : ℕ) (w : List ℕ) (n : ℕ) → Counted t i w n → (c : ℕ) → c < 64 → get_or w c 0 ≤ i
counted_low t i w n C c l = omega (arith, C.members c l, sum_most (member_at t c) i (λ u k. most u))
  where
    most : (u : ℕ) → member_at t c u ≤ 1
    most u = grind arith

pub counted_classes : (t : List ℕ) (i : ℕ) (w : List ℕ) (n : ℕ) → Counted t i w n → n ≤ i
counted_classes t i w n C = omega (arith, C.classes, sum_most (root t) i (λ u k. root_most t u))

pub counted_more : (t : List ℕ) (i : ℕ) (w : List ℕ) (n m c v : ℕ) → Counted t i w n → c < 64 → c ≡ class t i → v ≡ get_or w c 0 + 1
    → m ≡ n + root t i → Counted t (i + 1) (set w c v) m
counted_more t i w n m c v C l e a b =
    record {
      size = length-set w c v ∙ C.size;
      members = λ k h.
          ⊎_elim
          (λ q.
          let now_v : get_or (set w c v) k 0 ≡ v = rw (← q) (get_or-set_same w c v 0 (omega (arith, C.size))) in
          omega (arith, now_v, a, C.members c l, sum_more (member_at t k) i, ap (λ (z : ℕ). sum_to (member_at t z) i) q, one k (sym e ∙ q)))
          (λ q.
          omega (arith, get_or-set_other w c k v 0 (λ z. q (sym z)), C.members k h, sum_more (member_at t k) i, zero k (λ z. q (e ∙ z))))
          (cases_eq c k);
      classes = omega (arith, C.classes, b, sum_more (root t) i);
    }
  where
    one : (k : ℕ) → class t i ≡ k → member_at t k i ≡ 1
    one k f = rw (eq-eqb (class t i) k f)

    zero : (k : ℕ) → (class t i ≡ k → ⊥) → member_at t k i ≡ 0
    zero k f = rw (ne_eqb (class t i) k f)

-- no class went, no node is released
pub peel_start : (g : Terms) (t w : List ℕ) (n : ℕ) → Table t → Formed g → Counted t g.count w n
    → Peeling g t (record { height = replicate 64 None; pending = replicate 64 true; waiting = w; went = 0; total = n })
peel_start g t w n T F C =
    record {
      table = T;
      formed = F;
      height_size = length-replicate {A = Option ℕ} 64 None;
      pending_size = length-replicate {A = Bool} 64 true;
      waiting_size = C.size;
      waits = waits;
      left_waits = λ c D e. omega (
        arith,
        waits c (omega (arith, D.known, F.most)),
        sum_at (wait_at t (replicate 64 true) c) g.count c D.known,
        wait_in t (replicate 64 true) c c D.lowest (pending c D.known),
      );
      gone_waits = λ c a l d. cc (all c l);
      released = λ u z S. cc (pending u S.functor.known);
      low = λ c a l d. cc (all c l);
      apart = λ c d a l k e f. cc (all c l);
      unused = λ c l n. all c l;
      lower = λ u j a U k d. cc (all (class t u) (class_low g t T F u U.known));
      total = C.classes;
      count = omega (arith, C.classes, sum_agree (left_at t (replicate 64 None)) (root t) g.count (λ c l. each c (omega (arith, F.most))));
    }
  where
    all : (c : ℕ) → c < 64 → height_at (replicate 64 None) c ≡ None
    all c l = get_or-replicate 64 c None None l

    pending : (u : ℕ) → u < g.count → pending_at (replicate 64 true) u ≡ true
    pending u l = get_or-replicate 64 u true false (omega (arith, F.most))

    waits : (c : ℕ) → c < 64 → get_or w c 0 ≡ sum_to (wait_at t (replicate 64 true) c) g.count
    waits c l =
        C.members c l
        ∙ sum_agree (member_at t c) (wait_at t (replicate 64 true) c) g.count
        (λ u k. ap (λ (z : Bool). cond (eqb (class t u) c) (cond z 1 0) 0) (sym (pending u k)))

    each : (c : ℕ) → c < 64 → left_at t (replicate 64 None) c ≡ root t c
    each c l = ap (λ (z : Option ℕ). cond (eqb (class t c) c) (stays z) 0) (all c l)
