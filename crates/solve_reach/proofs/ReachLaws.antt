-- Steps of the search, where it starts and where it ends.
use mathlib.Core.Path.{◌≡◌, refl, sym, ◌∙◌, ap}
use mathlib.Core.Logic.{inl, inr, ⊎_elim}
use mathlib.Core.List.{List}
use Prim.Native.Nat.{ℕ, ◌+◌, ◌≤◌, ◌<◌}
use native.Mathlib.Numerals.{add-one}
use native.Mathlib.Omega.{arith}
use lib.ListN.{get_or, set, length-set, replicate, length-replicate, get_or-replicate}
use lib.Seq.{get_or-set_same, get_or-set_other}
use borrow.Author.Count.{below_more}
use Rattle.std.specs.Prelude.{Option, Some, None}
use Rattle.std.specs.Option.{IsSome, IsNone, is_some}
use Rattle.base.specs.Sum.{sum_to}
use Rattle.std.proofs.lemmas.Bool.{cases_eq}
use Rattle.base.proofs.SumLaws.{sum_most, sum_same}
use Rattle.store.specs.Views.{arity_at, child_at}
use Rattle.store.specs.declared.Terms.{Terms}
use Rattle.solve_classes.specs.Table.{class, Table}
use Rattle.solve_trace.specs.Nodes.{IsFunctor, Formed}
use Rattle.solve_heights.specs.Nodes.{under}
use Rattle.solve_heights.proofs.OptionLaws.{some_of, none_of}
use Rattle.solve_heights.proofs.CountLaws.{sum_one}
use Rattle.solve_heights.proofs.SummandLaws.{under_low}
use Rattle.solve_reach.specs.Reach.{down_at, Onward, Ways}
use Rattle.solve_reach.specs.Search.{Source, Step, Explored, came, reached_at, Reaching, Grown, Expanding}
use Rattle.solve_reach.specs.declared.Down.{Down}
use Rattle.solve_reach.specs.declared.Search.{Search}
use Rattle.solve_reach.specs.declared.Searcher.{Searcher}

-- ---- summands

reached_none : (r : Search) (d : ℕ) → down_at r d ≡ None → reached_at r d ≡ 0
reached_none r d e = ap came e

reached_one : (r : Search) (d : ℕ) (x : Down) → down_at r d ≡ Some x → reached_at r d ≡ 1
reached_one r d x e = ap came e

came_most : (o : Option Down) → came o ≤ 1
came_most None = omega arith
came_most (Some x) = omega arith

reached_most : (r : Search) → sum_to (reached_at r) 64 ≤ 64
reached_most r = sum_most (reached_at r) 64 (λ d l. came_most (down_at r d))

-- where 64 classes were reached, each was
all_reached : (r : Search) → 64 ≤ sum_to (reached_at r) 64 → (d : ℕ) → d < 64 → IsSome (down_at r d)
all_reached r h d l =
    some (down_at r d)
    (sum_same (λ _. 1) (reached_at r) 64 (λ e k. came_most (down_at r e)) (omega (arith, h, sum_most (λ _. 1) 64 (λ e k. omega arith))) d l)
  where
    some : (o : Option Down) → 1 ≡ came o → IsSome o
    some None e = absurd (omega (arith, e))
    some (Some x) e = refl

-- ---- the reached classes get more

pub grown_none : (w : Searcher) → Grown w w
grown_none w = record { start = refl; risen = omega arith; same = λ e. refl; kept = λ d h. h }

grown_more : (a b c : Searcher) → Grown a b → Grown b c → Grown a c
grown_more a b c A B =
    record {
      start = B.start ∙ A.start;
      risen = omega (arith, A.risen, B.risen);
      same = λ e. B.same (omega (arith, e, A.risen, B.risen)) ∙ A.same (omega (arith, e, A.risen, B.risen));
      kept = λ d h. B.kept d (A.kept d h);
    }

pub source_kept : (t : List ℕ) (w next : Searcher) (p : ℕ) → Grown w next → Source t w.search w.start p → Source t next.search next.start p
source_kept t w next p G = ⊎_elim (λ e. inl (e ∙ ap (class t) (sym G.start))) (λ h. inr (G.kept (class t p) h))

-- ---- a step down

pub child_low : (g : Terms) → Formed g → (p : ℕ) → IsFunctor g p → (j : ℕ) → j < arity_at g p → child_at g p j < 64
child_low g F p U j l = omega (arith, F.earlier p j U.known l, U.known, F.most)

module _ (g : Terms) (t : List ℕ) where
  pub reaching_small : (w : Searcher) → Reaching g t w → w.count ≤ 64
  reaching_small w R = omega (arith, R.count, reached_most w.search)

  -- class d, not reached before, is reached by the child k of the source p at place j, counted from 0
  module _ (w : Searcher) (R : Reaching g t w) (p j k d : ℕ) (U : IsFunctor g p) (from : Source t w.search w.start p)
      (l : j < arity_at g p) (ek : k ≡ child_at g p j) (ed : d ≡ class t k) (new : down_at w.search d ≡ None) where
    abbrev T : Table t
    T = R.table

    abbrev F : Formed g
    F = R.formed

    abbrev x : Down
    x = record { parent = p; place = j + 1; into = k; level = w.count + 1 }

    abbrev next : Search
    next = record { reached = set w.search.reached d (Some x) }

    k_low : k < 64
    k_low = omega (arith, ek, child_low g F p U j l)

    d_low : d < 64
    d_low = omega (arith, ed, T.low k k_low, k_low)

    p_low : p < 64
    p_low = omega (arith, U.known, F.most)

    at_new : down_at next d ≡ Some x
    at_new = get_or-set_same w.search.reached d (Some x) None (omega (arith, R.size, d_low))

    at_old : (e : ℕ) → (e ≡ d → ⊥) → down_at next e ≡ down_at w.search e
    at_old e n = get_or-set_other w.search.reached d e (Some x) None n

    kept : (e : ℕ) (y : Down) → down_at w.search e ≡ Some y → down_at next e ≡ Some y
    kept e y h = at_old e (λ q. cc new) ∙ h

    -- a class that is reached is d, or was reached before
    cases : {A : Type 0} (e : ℕ) (y : Down) → down_at next e ≡ Some y → (e ≡ d → y ≡ x → A) → (down_at w.search e ≡ Some y → A) → A
    cases e y h here there =
        ⊎_elim
        (λ q. let z : Some y ≡ Some x = sym h ∙ ap (down_at next) q ∙ at_new in here q cc)
        (λ n. there (sym (at_old e n) ∙ h))
        (cases_eq e d)

    count : w.count + 1 ≡ sum_to (reached_at next) 64
    count =
        omega (
          arith,
          R.count,
          sum_one (reached_at next) (reached_at w.search) 64 d d_low (omega (arith, reached_one next d x at_new, reached_none w.search d new))
              (λ e m n. ap came (at_old e n)),
        )

    -- what leads on does so still
    onward_old : (q m : ℕ) → Onward t w.search w.start q m → Onward t next w.start q m
    onward_old q m O n = let a = O n in (a.0, (kept (class t q) a.0 a.1.0, a.1.1))

    onward_new : Onward t next w.start p (w.count + 1)
    onward_new n =
        ⊎_elim
        (λ e. absurd (n e))
        (λ h.
        let y = some_of (down_at w.search (class t p)) h in
        (y.0, (kept (class t p) y.0 y.1, omega (arith, R.high (class t p) y.0 (omega (arith, T.low p p_low, p_low)) y.1))))
        from

    ways : Ways t next w.start
    ways =
        record {
          parents = λ e y m h. cases e y h (λ q z. omega (arith, ap (λ (v : Down). v.parent) z, p_low)) (R.ways.parents e y m);
          childs = λ e y m h. cases e y h (λ q z. omega (arith, ap (λ (v : Down). v.into) z, k_low)) (R.ways.childs e y m);
          low = λ e y m h. cases e y h (λ q z. omega (arith, ap (λ (v : Down). v.level) z)) (R.ways.low e y m);
          top = λ e y m h. cases e y h
              (λ q z. omega (arith, ap (λ (v : Down). v.level) z, count, reached_most next))
              (R.ways.top e y m);
          onward = λ e y m h. cases e y h (λ q z. rw z onward_new) (λ o. onward_old y.parent y.level (R.ways.onward e y m o));
        }

    step : Step g t d x
    step = record { functor = U; index = j; within = l; place = add-one j; child = ek; in_class_lem = sym ed }

    pub step_new : Reaching g t (record { search = next; start = w.start; count = w.count + 1 })
    step_new =
        record {
          table = T;
          formed = F;
          size = length-set w.search.reached d (Some x) ∙ R.size;
          start = R.start;
          ways = ways;
          steps = λ e y m h. cases e y h (λ q z. rw (q, z) step) (R.steps e y m);
          high = λ e y m h. cases e y h (λ q z. omega (arith, ap (λ (v : Down). v.level) z)) (λ o. omega (arith, R.high e y m o));
          count = count;
        }

    grown : Grown w (record { search = next; start = w.start; count = w.count + 1 })
    grown =
        record {
          start = refl;
          risen = omega arith;
          same = λ e. absurd (omega (arith, e));
          kept = λ e h. let y = some_of (down_at w.search e) h in ap is_some (kept e y.0 y.1);
        }

  -- ---- the children of a node

  module _ (w : Searcher) (p j k d : ℕ) (l : j < arity_at g p) (ek : k ≡ child_at g p j) (ed : d ≡ class t k) {next : Searcher} (X : Expanding g t w p j next) where
    e : d ≡ under g t p j
    e = ed ∙ ap (class t) ek

    pub expand_before : IsSome (down_at next.search d) → Expanding g t w p (j + 1) next
    expand_before h =
        record {
          reaching = X.reaching;
          grown = X.grown;
          children = below_more (λ i. IsSome (down_at next.search (under g t p i))) j X.children (rw e at h);
        }

    pub expand_now : IsFunctor g p → Source t w.search w.start p → IsNone (down_at next.search d)
        → Expanding g t w p (j + 1) (record {
          search = record { reached = set next.search.reached d (Some (record { parent = p; place = j + 1; into = k; level = next.count + 1 })) };
          start = next.start;
          count = next.count + 1;
        })
    expand_now U from free =
        let new = none_of (down_at next.search d) free in
        let O = source_kept t w next p X.grown from in
        let G = grown next X.reaching p j k d U O l ek ed new in
        record {
          reaching = step_new next X.reaching p j k d U O l ek ed new;
          grown = grown_more w next _ X.grown G;
          children =
              below_more _ j (λ i m. G.kept (under g t p i) (X.children i m))
              (ap is_some
              (ap (λ (z : ℕ). get_or (set next.search.reached d (Some (record { parent = p; place = j + 1; into = k; level = next.count + 1 }))) z None) (sym e)
              ∙ at_new next X.reaching p j k d U O l ek ed new));
        }

  -- ---- start and end

  pub reach_start : Table t → Formed g → (u : ℕ) → u < g.count → Reaching g t (record { search = record { reached = replicate 64 None }; start = u; count = 0 })
  unfolding sum_to
  reach_start T F u l =
      record {
        table = T;
        formed = F;
        size = length-replicate {A = Option Down} 64 None;
        start = l;
        ways =
            record {
              parents = λ d x m h. cc (none d m);
              childs = λ d x m h. cc (none d m);
              low = λ d x m h. cc (none d m);
              top = λ d x m h. cc (none d m);
              onward = λ d x m h. cc (none d m);
            };
        steps = λ d x m h. cc (none d m);
        high = λ d x m h. cc (none d m);
        count = refl;
      }
    where
      none : (d : ℕ) → d < 64 → down_at (record { reached = replicate 64 None }) d ≡ None
      none d m = get_or-replicate 64 d None None m

  -- where 64 classes were reached, every node is explored
  pub all_explored : (w : Searcher) → Reaching g t w → 64 ≤ w.count → (p : ℕ) → Explored g t w.search w.start p
  all_explored w R h p U from j l = all_reached w.search (omega (arith, h, R.count)) (under g t p j) (under_low g t R.table R.formed p j U l)
