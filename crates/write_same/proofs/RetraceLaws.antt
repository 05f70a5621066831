-- What each entry adds to the lines, and all of them.
use mathlib.Core.Path.{◌≡◌, refl, sym, ◌∙◌, subst}
use mathlib.Core.List.{List, []}
use Prim.Native.Nat.{ℕ, ◌+◌, ◌*◌, ◌≤◌, ◌<◌}
use native.Mathlib.Omega.{arith}
use native.Mathlib.Numerals.{add-one}
use lib.ListN.{length, get_or, take}
use lib.Seq.{take-suc, take_all}
use Rattle.graph.specs.State.{State, IsNode}
use Rattle.graph.specs.Lines.{same}
use Rattle.store.specs.declared.Terms.{Terms}
use Rattle.store.specs.declared.Equations.{Equations}
use Rattle.solve_classes.specs.Table.{class, Fresh, Merged}
use Rattle.solve_classes.proofs.CountLaws.{fresh_count}
use Rattle.base.specs.Sum.{sum_to}
use Rattle.base.proofs.SumLaws.{sum_none, sum_more}
use Rattle.solve_trace.specs.declared.Entry.{Entry}
use Rattle.solve_trace.specs.Trace.{Reason, Traced, start, merge}
use Rattle.solve_trace.proofs.TraceLaws.{reason_known}
use Rattle.solve_trace.proofs.ReplayLaws as tr
use Rattle.write_runs.specs.declared.Pen.{Pen}
use Rattle.write_runs.specs.Written.{ClaimAt}
use Rattle.write_runs.specs.Runs.{Rooted, Linked, Started, Rewired}
use Rattle.write_runs.proofs.Claims.{concludes, kept_kept, goes_none, goes_on}
use Rattle.write_runs.proofs.SizeLaws.{grows, one_fewer}
use Rattle.write_runs.proofs.RunLaws.{started_rooted}
use Rattle.write_needed.specs.Entries.{left_end, right_end, EndsAndChildren}
use Rattle.write_needed.specs.Trim.{Trimmed}
use Rattle.write_needed.proofs.EntryLaws.{entry_ends, one_table}
use Rattle.write_same.specs.Replay.{ReasonWritten, EntryReplayed, Made, Retraced, Retracing, Prepared, Explained}

-- ---- one entry

pub stepped : {q : Equations} {p o r : Pen} {t : List ℕ} {e : Entry} {l a b : ℕ} → ReasonWritten q p e o l → Rewired o t l a b r → EntryReplayed q p t e a b r
stepped {q} {p} {o} {r} {t} {e} {l} {a} {b} W R =
    record {
      continues = goes_on W.continues R.continues;
      high = omega (arith, W.high, R.high);
      tight = omega (arith, W.high, R.tight);
      more = λ s N w B.
          let k = reason_known s N.limited.proper w in
          let u = W.more s B.claims t a b N w B.written B.number in
          R.more s u.claims (N.count ∙ sym W.continues.nodes) k.0 k.1 u.written (λ x h. rw W.to (u.older _ _ (B.number x h))) u.last;
    }

-- ---- a trace

-- the lines of at most 63 entries
pub rising : (k : ℕ) → k ≤ 63 → 7 * k + sum_to (λ i. i) k ≤ 2394
unfolding sum_to
rising k h = omega (arith, grows (λ i. i) k 63 h, all)
  where
    all : sum_to (λ i. i) 63 ≡ 1953
    all = refl

pub rooted_cong : {s : State} {c d : ℕ → ℕ} {p : Pen} → ((x : ℕ) → IsNode s x → c x ≡ d x) → Rooted s c p → Rooted s d p
rooted_cong {p = p} f R =
    record { claims = R.claims; written = R.written; number = λ x h. subst (λ y. ClaimAt R.claims (get_or p.to x 0) (same x y)) (f x h) (R.number x h) }

-- ---- the table of a part of a trace

module _ {g : Terms} {q : Equations} {es : List Entry} where
  made_none : {t : List ℕ} → Fresh t → Made g q es 0 t
  made_none F = record { table = F.table; traced = λ s u D T. start F }

  module _ {k : ℕ} {t : List ℕ} (M : Made g q es k t) (h : k < length es) (d : Entry) {a b : ℕ}
      (ea : a ≡ left_end g q (get_or es k d)) (eb : b ≡ right_end g q (get_or es k d)) where
    -- entry k joins a and b, and they were two classes
    entry : (s : State) (u : List ℕ) → EndsAndChildren g q s → Traced s es u → Reason s t (get_or es k d) a b × (class t a ≡ class t b → ⊥)
    entry s u D T =
        let E = tr.replay s D.limited.proper D.limited.fits T k h t (M.traced s u D T) in
        let w : Reason s t (get_or es k d) E.left E.right = E.reason d in
        let ends = entry_ends s D w in
        let x : E.left ≡ a = sym ends.0 ∙ sym ea in
        let y : E.right ≡ b = sym ends.1 ∙ sym eb in
        (rw (x, y) at w, rw (x, y) at E.apart)

    made_more : {r : List ℕ} → Merged t a b r → Made g q es (k + 1) r
    made_more m =
        record {
          table = m.table;
          traced = λ s u D T.
              let E = entry s u D T in
              rw (add-one k, take-suc es k d h) (merge (take k es) (get_or es k d) (M.traced s u D T) E.0 E.1 m);
        }

-- ---- the lines of a trace

module _ {g : Terms} {q : Equations} {es : List Entry} {p : Pen} where
  pub retracing_none : {t : List ℕ} → Fresh t → Retracing g q es p 0 t p
  retracing_none F =
      record {
        continues = goes_none p;
        high = omega (arith, sum_none (λ i. i));
        classes = omega (arith, fresh_count _ F);
        made = made_none F;
        more = λ s u D T. rooted_cong (λ x k. sym (F.alone x (omega (arith, k, D.ends.limited.fits))));
      }

  module _ {k : ℕ} {t : List ℕ} {r : Pen} (R : Retracing g q es p k t r) where
    -- w is the trace, as a slice
    pub retracing_more : {o : Pen} {u : List ℕ} {a b : ℕ} (w : List Entry) (d : Entry) → w ≡ es → k < length w → p.nodes ≡ g.count
        → a ≡ left_end g q (get_or w k d) → b ≡ right_end g q (get_or w k d)
        → EntryReplayed q r t (get_or w k d) a b o → Merged t a b u → Retracing g q es p (k + 1) u o
    retracing_more {o} {u} {a} {b} w d e l n fa fb W M =
        let h : k < length es = rw e at l in
        let ea : a ≡ left_end g q (get_or es k d) = rw e at fa in
        let eb : b ≡ right_end g q (get_or es k d) = rw e at fb in
        let S : EntryReplayed q r t (get_or es k d) a b o = rw e at W in
        record {
          continues = goes_on R.continues S.continues;
          high = omega (arith, R.high, S.tight, R.classes, sum_more (λ i. i) k);
          classes = omega (arith, R.classes, one_fewer t u a b M);
          made = made_more R.made h d ea eb M;
          more = λ s v D T B.
              rooted_cong (λ x i. sym (M.entry x (omega (arith, i, D.ends.limited.fits))))
              (S.more s (rw (R.continues.nodes, n) D.names) (entry R.made h d ea eb s v D.ends T).0 (R.more s v D T B));
        }

    pub retraced : length es ≡ k → Retraced g q es p r
    retraced z =
        let e : k ≡ length es = omega arith in
        let h : length es ≤ k = omega arith in
        record {
          continues = R.continues;
          high = rw e at R.high;
          more = λ s u D T B.
              let T' : Traced s es t = rw (take_all k es h) at (R.made.traced s u D.ends T) in
              rooted_cong (λ x i. one_table s D.ends.limited T' T x (omega (arith, i, D.ends.limited.fits))) (R.more s u D T B);
        }

-- ---- the entries that a goal needs

module _ {g : Terms} {q : Equations} {es : List Entry} {buf : List ℕ} {u v : ℕ} where
  pub prepared : {few : List Entry} {p r : Pen} {ps : List (ℕ × ℕ)} → length es ≤ 63 → Trimmed g q es u v ps few → Started buf g.count g.count p
      → Retraced g q few p r → Prepared g q es buf u v ps r
  prepared {few} {p} {r} h T S R =
      record {
        nodes = R.continues.nodes ∙ S.nodes;
        high = omega (arith, R.high, S.count, rising (length few) (omega (arith, T.less)));
        kept = kept_kept {n = g.count} (omega (arith, R.continues.low, S.count)) S.kept R.continues.kept;
        ready = λ s D J.
            let j = T.joins s D.ends J in
            record { table = j.table; lines = R.more s j.table D j.traced (started_rooted S s D.names.count); joined = j.joined; pairs = j.pairs };
      }

  pub explained : {p r : Pen} {l : ℕ} {out : List ℕ} → Prepared g q es buf u v [] p → Linked p (get_or p.to u 0) (get_or p.to v 0) r l → out ≡ r.buf.now
      → Explained g q es buf u v out r.lines
  explained {p} {r} {l} P K o =
      rw o
      (record {
        some_lines = omega (arith, K.last);
        high = omega (arith, P.high, K.count);
        kept = kept_kept K.continues.low P.kept K.continues.kept;
        shown = λ s D J hu hv.
            let R = P.ready s D (record { table = J.table; traced = J.traced; joined = J.joined; pairs = λ k d h. absurd (omega arith) }) in
            let L = R.lines in
            let second : ClaimAt L.claims (get_or p.to v 0) (same v (class R.table u)) = (rw R.joined (L.number v hv)) in
            let a = K.more s L.claims u v (class R.table u) L.written (L.number u hu) second in
            concludes s l K.last a.written a.last;
      })
