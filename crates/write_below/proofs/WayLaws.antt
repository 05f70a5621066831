-- The lines of a way.
use Rattle.std.proofs.Common.{◌≡◌, ℕ, zero, suc, ◌-◌, ◌<◌, List, [], ◌∷◌, length, get_or, map, sym, ◌∙◌, ap, arith}
use Rattle.std.proofs.lemmas.List.{length-map}
use lib.ListN.{get_or-map}
use Rattle.std.specs.List.{All}
use Rattle.std.proofs.lemmas.List.Elements.{All-map}
use Rattle.graph.specs.State.{State, IsNode}
use Rattle.store.specs.declared.Terms.{Terms}
use Rattle.store.specs.declared.Equations.{Equations}
use Rattle.solve_classes.specs.Table.{class, Table}
use Rattle.solve_classes.proofs.TableLaws.{class_small}
use Rattle.solve_trace.specs.declared.Entry.{Entry}
use Rattle.solve_reach.specs.declared.Search.{Search}
use Rattle.solve_reach.specs.Reach.{Edge, Edges}
use Rattle.write_needed.specs.Trim.{NodePairs, PairsTogether}
use Rattle.write_runs.specs.declared.Pen.{Pen}
use Rattle.write_runs.proofs.Claims.{concludes, kept_kept}
use Rattle.write_same.specs.Replay.{Prepared}
use Rattle.write_below.specs.declared.Rung.{Rung}
use Rattle.write_below.specs.Steps.{pair_of, upper, Connected, Noted, AllOnNodes, Leads, Top}
use Rattle.write_below.specs.Chain.{Link, Ascended, Lowered, Circled}

-- what holds of each pair holds of each step
steps_all : (P : ℕ × ℕ → Type 0) (xs : List Rung) → All P (map pair_of xs) → All (λ x. P (pair_of x)) xs
steps_all P xs A = λ k d h. (rw (get_or-map pair_of xs k d) at (A k (pair_of d) (omega (arith, length-map xs pair_of))))

module _ {t : List ℕ} {r : Search} {u v : ℕ} {xs : List Rung} (L : Leads t r u v xs) where
  -- ---- in a state

  module _ (s : State) (T : Table t) (E : Edges s t r) where
    pairs_together : PairsTogether t (map pair_of xs)
    pairs_together =
        All-map (λ (p : ℕ × ℕ). class t p.0 ≡ class t p.1) pair_of xs
        (λ k d h. let N = L.noted k d h in (E.at _ _ (class_small T _ N.small) N.step).in_class_lem)

-- where c has each pair in one class, each step is a link
module _ {s : State} {t : List ℕ} {r : Search} (T : Table t) (E : Edges s t r) where
  edge : (x : Rung) → Noted t r x → Edge s t (class t x.low) x.down
  edge x n = E.at (class t x.low) x.down (class_small T x.low n.small) n.step

  links : (c : ℕ → ℕ) (v : ℕ) (xs : List Rung) → IsNode s v → Connected v xs → All (Noted t r) xs → All (λ x. c x.down.into ≡ c x.low) xs
      → (k : ℕ) (d : Rung) → k < length xs → Link s c (get_or xs k d)
  links c v [] h C N P k d l = absurd (omega arith)
  links c v (x ∷ xs) h C N P zero d l =
      let e = edge x (N 0 x (omega arith)) in
      record { low_known = rw C.0 h; parent_known = e.parent_known; child_known = e.child_known; together = P 0 x (omega arith); step = e.step }
  links c v (x ∷ xs) h C N P (suc k) d l =
      let e = edge x (N 0 x (omega arith)) in
      links c x.down.parent xs e.parent_known C.1 (λ j b m. N (suc j) b (omega arith)) (λ j b m. P (suc j) b (omega arith)) k d (omega arith)

module _ {t : List ℕ} {r : Search} {u v : ℕ} {xs : List Rung} (T : Table t) (L : Leads t r u v xs) where
  pub lowered : {g : Terms} {e : Equations} {es : List Entry} {buf out : List ℕ} {top : ℕ} {ps : List (ℕ × ℕ)} {p q : Pen} → top ≡ upper v xs
      → ps ≡ map pair_of xs → Prepared g e es buf u top ps p → Ascended p xs u q → out ≡ q.buf.now → Lowered g e es t r buf u v out q.lines
  lowered {g} {e} {es} {buf} {out} {top} {ps} {p} {q} z y P A o =
      rw o
      (record {
        some_lines = omega (arith, A.low);
        high = omega (arith, P.high, A.high, L.few);
        kept = kept_kept A.continues.low P.kept A.continues.kept;
        shown = λ s D T' E ku kv.
            let j : class t u ≡ class t top = sym L.end ∙ ap (class t) (sym z) in
            let all : PairsTogether t ps = rw y (pairs_together L s T E) in
            let R = P.ready s D (record { table = t; traced = T'; joined = j; pairs = all }) in
            let Q : PairsTogether R.table (map pair_of xs) = rw y at R.pairs in
            let K = R.lines in
            let end : class R.table (upper v xs) ≡ class R.table u = ap (class R.table) (sym z) ∙ sym R.joined in
            let one = steps_all (λ (w : ℕ × ℕ). class R.table w.0 ≡ class R.table w.1) xs Q in
            let a = A.more s K.claims (class R.table) v K.written K.number L.connected (links T E (class R.table) v xs kv L.connected L.noted one) ku end in
            concludes s (q.lines - 1) {cs = a.claims} (omega (arith, A.low)) a.written a.last;
      })

-- the pairs are of nodes
pub pairs_on_nodes : {ps : List (ℕ × ℕ)} (xs : List Rung) → ps ≡ map pair_of xs → AllOnNodes xs → NodePairs ps
pairs_on_nodes xs e A =
    rw e
    (All-map (λ (p : ℕ × ℕ). (p.0 < 64) × (p.1 < 64)) pair_of xs (λ k d h. let n = A k d h in (n.into, n.low)))

pub circled : {g : Terms} {e : Equations} {es : List Entry} {t : List ℕ} {r : Search} {u p m : ℕ} {buf out : List ℕ} → Top t r u p → Lowered g e es t r buf p p out m
    → Circled g e es t r buf out m
circled {p = p} B L =
    record {
      node = p;
      some_lines = L.some_lines;
      high = L.high;
      kept = L.kept;
      shown = λ s D T E.
          let k : IsNode s p = rw B.leads at (E.at B.d B.down B.small B.reached).parent_known in
          (k, L.shown s D T E k k);
    }
