-- Entries that stand make a trace, as far as the code tests them; entries dropped one by one.
use Rattle.std.proofs.Common.{◌≡◌, ℕ, ◌+◌, ◌-◌, ◌≤◌, ◌<◌, List, [], ◌∷◌, ◌++◌, length, get_or, take, drop, Some, refl, sym, ◌∙◌, arith, append_assoc, append-nil, add-one, length-append, length-take-le, length-drop}
use lib.Seq.{take-suc, take_all}
use Rattle.std.specs.List.{All, Contains, remove}
use Rattle.std.proofs.lemmas.List.Elements.{All-append, All-contains, All-contains_itself, All-take, All-drop, All-pop}
use Rattle.store.specs.declared.Terms.{Terms}
use Rattle.store.specs.declared.Equations.{Equations}
use Rattle.solve_classes.specs.Table.{class, Table, Fresh, Merged}
use Rattle.solve_trace.specs.declared.Entry.{Entry}
use Rattle.solve_trace.specs.Trace.{Reason, start, merge}
use Rattle.write_needed.specs.Entries.{left_end, right_end, InRange, AllInRange, Together, ReasonHolds}
use Rattle.write_needed.specs.Trim.{PairsTogether, Rebuilt, Extended, Rejoins, Among, Trimmed}
use Rattle.write_needed.proofs.EntryLaws.{entry_ends, trace_stands}

module _ {g : Terms} {q : Equations} where
  pub rebuilt_none : {t : List ℕ} → Fresh t → Rebuilt g q [] t
  rebuilt_none F = record { table = F.table; traced = λ s D A. start F }

  rebuilt_more : {es : List Entry} {t r : List ℕ} (e : Entry) {a b : ℕ} → Rebuilt g q es t → a ≡ left_end g q e → b ≡ right_end g q e
      → (class t a ≡ class t b → ⊥) → Together t e → Merged t a b r → Rebuilt g q (es ++ (e ∷ [])) r
  rebuilt_more {es} {t} {r} e {a} {b} B ea eb apart near m =
      record {
        table = m.table;
        traced = λ s D A.
            let h = All-pop (ReasonHolds s) (es ++ (e ∷ [])) es (Some e) refl A in
            let H : ReasonHolds s e = h.1 in
            let w = H.reason t near in
            let z = entry_ends s D w in
            let x : H.left ≡ a = sym z.0 ∙ sym ea in
            let y : H.right ≡ b = sym z.1 ∙ sym eb in
            let v : Reason s t e a b = rw (x, y) at w in
            merge es e (B.traced s D h.0) v apart m;
      }

  -- ---- made on from a table

  pub extended_none : {t : List ℕ} → Table t → Extended g q t [] t
  extended_none T = record { table = T; on = λ ds B. rw (append-nil ds) B }

  -- the entry at place k joins a and b
  pub extended_more : {t u r : List ℕ} (es : List Entry) {k : ℕ} (d : Entry) {a b : ℕ} → k < length es → Extended g q t (take k es) u
      → a ≡ left_end g q (get_or es k d) → b ≡ right_end g q (get_or es k d) → (class u a ≡ class u b → ⊥) → Together u (get_or es k d) → Merged u a b r
      → Extended g q t (take (k + 1) es) r
  extended_more es {k} d h X ea eb apart near m =
      record {
        table = m.table;
        on = λ ds B.
            rw (add-one k, take-suc es k d h, ← append_assoc ds (take k es) (get_or es k d ∷ []))
            (rebuilt_more (get_or es k d) (X.on ds B) ea eb apart near m);
      }

  pub rejoins : {f t r : List ℕ} {before after : List Entry} {u v : ℕ} {ps : List (ℕ × ℕ)} → Fresh f → Extended g q f before t → Extended g q t after r
      → class r u ≡ class r v → PairsTogether r ps → Rejoins g q (before ++ after) u v ps
  rejoins {r = r} {before} F X Y e p =
      λ s D A. record { table = r; traced = (Y.on before (X.on [] (rebuilt_none F))).traced s D A; joined = e; pairs = p }

-- ---- entries of another list

pub among_same : (es : List Entry) → Among es es
among_same es = All-contains_itself es

pub among_all : (P : Entry → Type 0) (few es : List Entry) → Among few es → All P es → All P few
among_all P few es A H = λ k d h. All-contains P es (get_or few k d) H (A k d h)

-- all but one
pub among_but : (es : List Entry) (k : ℕ) → Among (take k es ++ drop (k + 1) es) es
among_but es k =
    All-append (Contains es) (take k es) (drop (k + 1) es)
    (All-take (Contains es) k es (All-contains_itself es))
    (All-drop (Contains es) (k + 1) es (All-contains_itself es))

-- ---- one entry dropped, or not

-- the slice past place k
abbrev pub slice_end : List Entry → ℕ → List Entry
slice_end w k = take (length w - (k + 1)) (drop (k + 1) w)

end_all : (w : List Entry) (k : ℕ) → slice_end w k ≡ drop (k + 1) w
end_all w k = take_all (length w - (k + 1)) (drop (k + 1) w) (omega (arith, length-drop (k + 1) w))

module _ {g : Terms} {q : Equations} {es : List Entry} {u v : ℕ} {ps : List (ℕ × ℕ)} where
  pub trimmed_none : Trimmed g q es u v ps es
  trimmed_none = record { less = omega arith; among = among_same es; joins = λ s D J. J }

  -- w is what is kept, as a slice
  module _ {few : List Entry} (w : List Entry) (k : ℕ) (T : Trimmed g q es u v ps few) (e : w ≡ few) where
    pub trimmed_more : {less : List Entry} → k < length few → less ≡ remove few k → Rejoins g q (take k w ++ slice_end w k) u v ps
        → (k ≤ length less) × Trimmed g q es u v ps less
    trimmed_more {less} h l R =
        let S : Rejoins g q (take k few ++ drop (k + 1) few) u v ps = rw (e, end_all few k) at R in
        let B = among_all (Contains es) (take k few ++ drop (k + 1) few) few (among_but few k) T.among in
        rw (l, ← add-one k) (
          omega (arith, length-append (take k few) (drop (k + 1) few), length-take-le k few),
          record {
            less = omega (arith, T.less, length-append (take k few) (drop (k + 1) few), length-take-le k few, length-drop (k + 1) few);
            among = B;
            joins = λ s D J. S s D (among_all (ReasonHolds s) (take k few ++ drop (k + 1) few) es B (trace_stands s D J.traced));
          },
        )

    -- and the entries on both sides of it are in range
    pub parts_in_range : AllInRange g q es → AllInRange g q (take k w) × AllInRange g q (slice_end w k)
    parts_in_range R =
        let F = among_all (InRange g q) few es T.among R in
        rw (e, end_all few k) (All-take (InRange g q) k few F, All-drop (InRange g q) (k + 1) few F)
