-- One visit of the peel: node u is left as it is, or released, and then its class waits still, or goes and gets its height.
use mathlib.Core.Path.{◌≡◌, refl, sym, ◌∙◌, ap}
use mathlib.Core.Bool.{Bool, true, false, cond}
use mathlib.Core.Logic.{⊎_elim}
use mathlib.Core.List.{List}
use Prim.Native.Nat.{ℕ, ◌+◌, ◌-◌, ◌<◌}
use native.Mathlib.Omega.{arith}
use lib.Dec.{eqb}
use lib.ListN.{get_or, set, length-set}
use lib.Seq.{get_or-set_same, get_or-set_other}
use Rattle.std.specs.Prelude.{Option, Some, None}
use Rattle.base.specs.Sum.{sum_to}
use Rattle.std.proofs.lemmas.Bool.{cases_eq}
use Rattle.base.proofs.SumLaws.{sum_at}
use Rattle.store.specs.declared.Terms.{Terms}
use Rattle.solve_classes.specs.Table.{class, Table}
use Rattle.solve_trace.specs.Nodes.{Formed}
use Rattle.solve_heights.specs.Nodes.{under}
use Rattle.solve_heights.specs.Peel.{height_at, left_at, left, Stuck, Lower}
use Rattle.solve_heights.specs.Passes.{pending_at, wait_at, Peeling}
use Rattle.solve_heights.specs.declared.Peeler.{Peeler}
use Rattle.solve_heights.proofs.CountLaws.{sum_agree, sum_one}
use Rattle.solve_heights.proofs.OptionLaws.{none_or_some}
use Rattle.solve_heights.proofs.SummandLaws.{wait_in, wait_out, wait_done, left_one, left_gone, left_same, classes_most, class_low, is_class, under_low}

module _ (g : Terms) (t : List ℕ) (p : Peeler) (u : ℕ) (known : u < g.count) (P : Peeling g t p) where
  abbrev T : Table t
  T = P.table

  abbrev F : Formed g
  F = P.formed

  abbrev c : ℕ
  c = class t u

  pub own_low : class t u < 64
  own_low = class_low g t T F u known

  pub small : p.went < 255
  small = omega (arith, P.count, P.total, classes_most g t, F.most)

  module _ (d : pending_at p.pending u ≡ true) (free : Stuck g t p.height u → ⊥) where
    pub some_wait : 0 < get_or p.waiting (class t u) 0
    some_wait = omega (arith, P.waits c own_low, sum_at (wait_at t p.pending c) g.count u known, wait_in t p.pending c u refl d)

    -- its class is left
    own_left : height_at p.height c ≡ None
    own_left = ⊎_elim (λ e. e) (λ w. absurd (omega (arith, P.gone_waits c w.0 own_low w.1, some_wait))) (none_or_some (height_at p.height c))

    abbrev after : List Bool
    after = set p.pending u false

    done : pending_at after u ≡ false
    done = get_or-set_same p.pending u false false (omega (arith, P.pending_size, known, F.most))

    others : (v : ℕ) → (v ≡ u → ⊥) → pending_at after v ≡ pending_at p.pending v
    others v n = get_or-set_other p.pending u v false false n

    -- a node that is released now was so before, or is node u
    pub fewer : (v : ℕ) → pending_at after v ≡ true → pending_at p.pending v ≡ true
    fewer v e = ⊎_elim (λ m. cc done) (λ m. sym (others v m) ∙ e) (cases_eq v u)

    own_free : (v : ℕ) → pending_at after v ≡ false → Stuck g t p.height v → ⊥
    own_free v z S = ⊎_elim (λ m. free (rw m at S)) (λ m. P.released v (sym (others v m) ∙ z) S) (cases_eq v u)

    -- `rest`: how many nodes its class waits for from now on
    module _ (rest : ℕ) (r : rest + 1 ≡ get_or p.waiting (class t u) 0) where
      abbrev later : List ℕ
      later = set p.waiting (class t u) rest

      own : get_or later c 0 ≡ rest
      own = get_or-set_same p.waiting c rest 0 (omega (arith, P.waiting_size, own_low))

      other : (k : ℕ) → (k ≡ c → ⊥) → get_or later k 0 ≡ get_or p.waiting k 0
      other k n = get_or-set_other p.waiting c k rest 0 n

      waits : (k : ℕ) → k < 64 → get_or later k 0 ≡ sum_to (wait_at t after k) g.count
      waits k l =
          ⊎_elim
          (λ m.
          rw m
          (omega (
            arith,
            own,
            r,
            P.waits c own_low,
            sum_one (wait_at t p.pending c) (wait_at t after c) g.count u known
                (omega (arith, wait_in t p.pending c u refl d, wait_done t after c u done))
                (λ v h n. ap (λ (z : Bool). cond (eqb (class t v) c) (cond z 1 0) 0) (sym (others v n))),
          )))
          (λ m.
          other k m
          ∙ P.waits k l
          ∙ sum_agree (wait_at t p.pending k) (wait_at t after k) g.count
          (λ v h.
          ⊎_elim
          (λ n. rw n (wait_out t p.pending k u (λ z. m (sym z)) ∙ sym (wait_out t after k u (λ z. m (sym z)))))
          (λ n. ap (λ (z : Bool). cond (eqb (class t v) k) (cond z 1 0) 0) (sym (others v n)))
          (cases_eq v u)))
          (cases_eq k c)

      -- the class of u still waits
      still_waits : (rest ≡ 0 → ⊥) → Peeling g t (record p { pending = set p.pending u false; waiting = set p.waiting (class t u) rest })
      still_waits z =
          record {
            height_size = P.height_size;
            pending_size = length-set p.pending u false ∙ P.pending_size;
            waiting_size = length-set p.waiting c rest ∙ P.waiting_size;
            waits = waits;
            left_waits = λ k C e. ⊎_elim
                (λ m. rw m (omega (arith, own, z)))
                (λ m. omega (arith, other k m, P.left_waits k C e))
                (cases_eq k c);
            gone_waits = λ k a l n. ⊎_elim
                (λ m. cc own_left)
                (λ m. other k m ∙ P.gone_waits k a l n)
                (cases_eq k c);
            released = own_free;
            low = P.low;
            apart = P.apart;
            unused = P.unused;
            lower = P.lower;
            table = T;
            formed = F;
            total = P.total;
            count = P.count;
          }

      -- it goes
      module _ (z : rest ≡ 0) where
        abbrev next : List (Option ℕ)
        next = set p.height (class t u) (Some p.went)

        n_same : height_at next c ≡ Some p.went
        n_same = get_or-set_same p.height c (Some p.went) None (omega (arith, P.height_size, own_low))

        n_other : (k : ℕ) → (k ≡ c → ⊥) → height_at next k ≡ height_at p.height k
        n_other k n = get_or-set_other p.height c k (Some p.went) None n

        n_stays : (k : ℕ) → height_at next k ≡ None → height_at p.height k ≡ None
        n_stays k e =
            ⊎_elim
            (λ m. cc n_same)
            (λ m. sym (n_other k m) ∙ e)
            (cases_eq k c)

        -- a class that went before keeps its height
        n_keeps : (k a : ℕ) → height_at p.height k ≡ Some a → height_at next k ≡ Some a
        n_keeps k a n = n_other k (λ m. cc own_left) ∙ n

        -- a class that went, by its height: it is the new one, or went before
        n_cases : {A : Type 0} (k a : ℕ) → height_at next k ≡ Some a → (k ≡ c → a ≡ p.went → A) → ((k ≡ c → ⊥) → height_at p.height k ≡ Some a → A) → A
        n_cases k a n new old =
            ⊎_elim
            (λ m. let e : Some a ≡ Some p.went = sym n ∙ ap (height_at next) m ∙ n_same in new m cc)
            (λ m. old m (sym (n_other k m) ∙ n))
            (cases_eq k c)

        n_lower : Lower g t next
        n_lower v j a U k n =
            let y = under_low g t T F v j U k in
            n_cases (class t v) a n
            (λ m e.
            let none : pending_at after v ≡ false = all_done v U.known m in
            ⊎_elim
            (λ s. absurd (own_free v none (record { functor = U; place = j; within = k; stays = s })))
            (λ w. (w.0, (omega (arith, P.low (under g t v j) w.0 y w.1, e), n_keeps (under g t v j) w.0 w.1)))
            (none_or_some (height_at p.height (under g t v j))))
            (λ m b. let w = P.lower v j a U k b in (w.0, (w.1.0, n_keeps (under g t v j) w.0 w.1.1)))
          where
            -- no node of the class is pending
            all_done : (v : ℕ) → v < g.count → class t v ≡ c → pending_at after v ≡ false
            all_done v l m = go (pending_at after v) refl
              where
                go : (b : Bool) → pending_at after v ≡ b → pending_at after v ≡ false
                go true e = absurd (omega (arith, z, own, waits c own_low, sum_at (wait_at t after c) g.count v l, wait_in t after c v m e))
                go false e = e

        n_apart : (a b n : ℕ) → a < 64 → b < 64 → height_at next a ≡ Some n → height_at next b ≡ Some n → a ≡ b
        n_apart a b n la lb e f =
            n_cases a n e
            (λ m q. n_cases b n f (λ o _. m ∙ sym o) (λ o h. absurd (omega (arith, q, P.low b n lb h))))
            (λ m h. n_cases b n f (λ o q. absurd (omega (arith, q, P.low a n la h))) (λ o i. P.apart a b n la lb h i))

        n_count : p.went + 1 + left g t next ≡ p.total
        n_count =
            let C = is_class g t T F u known in
            omega (
              arith,
              P.count,
              sum_one (left_at t p.height) (left_at t next) g.count c C.known
                  (omega (arith, left_one t p.height c C.lowest own_left, left_gone t next c p.went n_same))
                  (λ k l m. left_same t p.height next k (n_other k m)),
            )

        -- what is stuck now was so before
        n_stuck : (v : ℕ) → Stuck g t next v → Stuck g t p.height v
        n_stuck v S = record { functor = S.functor; place = S.place; within = S.within; stays = n_stays _ S.stays }

        goes : Peeling g t (record { height = next; pending = set p.pending u false; waiting = set p.waiting (class t u) rest; went = p.went + 1; total = p.total })
        goes =
            record {
              height_size = length-set p.height c (Some p.went) ∙ P.height_size;
              pending_size = length-set p.pending u false ∙ P.pending_size;
              waiting_size = length-set p.waiting c rest ∙ P.waiting_size;
              waits = waits;
              left_waits = λ k C e. ⊎_elim
                  (λ m. cc n_same)
                  (λ m. omega (arith, other k m, P.left_waits k C (n_stays k e)))
                  (cases_eq k c);
              gone_waits = λ k a l n. n_cases k a n (λ m e. rw m (own ∙ z)) (λ m h. other k m ∙ P.gone_waits k a l h);
              released = λ v f S. own_free v f (n_stuck v S);
              low = λ k a l n. n_cases k a n (λ m e. omega (arith, e)) (λ m h. omega (arith, P.low k a l h));
              apart = n_apart;
              unused = λ k l n. ⊎_elim
                  (λ m. absurd (n (rw m (is_class g t T F u known))))
                  (λ m. n_other k m ∙ P.unused k l n)
                  (cases_eq k c);
              lower = n_lower;
              table = T;
              formed = F;
              total = P.total;
              count = n_count;
            }

    -- k is the class as it was read
    module _ (k rest : ℕ) (e : k ≡ class t u) (r : rest ≡ get_or p.waiting k 0 - 1) where
      fewer_by_one : rest + 1 ≡ get_or p.waiting (class t u) 0
      fewer_by_one = omega (arith, r, ap (λ (z : ℕ). get_or p.waiting z 0) e, some_wait)

      read : get_or (set p.waiting k rest) k 0 ≡ rest
      read = get_or-set_same p.waiting k rest 0 (omega (arith, e, own_low, P.waiting_size))

      pub release_more : (get_or (set p.waiting k rest) k 0 ≡ 0 → ⊥)
          → Peeling g t (record p { pending = set p.pending u false; waiting = set p.waiting k rest })
      release_more z = rw e (still_waits rest fewer_by_one (λ q. z (read ∙ q)))

      pub release_last : get_or (set p.waiting k rest) k 0 ≡ 0
          → Peeling g t (record { height = set p.height k (Some p.went); pending = set p.pending u false; waiting = set p.waiting k rest; went = p.went + 1; total = p.total })
      release_last z = rw e (goes rest fewer_by_one (sym read ∙ z))
