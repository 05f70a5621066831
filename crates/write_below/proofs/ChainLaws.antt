-- What each run of lines of a chain adds.
use Rattle.std.proofs.Common.{◌≡◌, ℕ, zero, suc, ◌+◌, ◌-◌, ◌≤◌, ◌<◌, List, [], ◌∷◌, length, get_or, take, drop, refl, ◌∙◌, arith, add-one}
use lib.Seq.{take-suc, take_all}
use Rattle.std.specs.List.{All}
use Rattle.graph.specs.State.{State, IsNode}
use Rattle.graph.specs.Lines.{Line, Claim, same, below}
use Rattle.proof_lines.specs.Codec.{line}
use Rattle.write_runs.specs.declared.Pen.{Pen}
use Rattle.write_runs.specs.Pens.{NextLine}
use Rattle.write_runs.specs.Written.{ClaimAt, LinesClaim, More}
use Rattle.write_runs.specs.Runs.{Linked, LineForEach}
use Rattle.write_runs.proofs.Claims.{claim_child, claim_below_same, claim_same_below, claim_below_below, written_more, more_more, goes_none, goes_line, goes_on}
use Rattle.write_runs.proofs.RunLaws.{next_line}
use Rattle.write_below.specs.declared.Rung.{Rung}
use Rattle.write_below.specs.Steps.{upper, Connected}
use Rattle.write_below.specs.Chain.{Link, Descended, Climbing, Climbed, Arrived, Ascended}
use Rattle.write_below.proofs.StepLaws.{upper_more}

-- what was claimed is claimed, with no lines more
stays : {s : State} {p : Pen} {cs : List Claim} {l : ℕ} {c : Claim} → LinesClaim s p cs → ClaimAt cs l c → More s cs p l c
stays {cs = cs} W h = record { claims = cs; written = W; older = λ i d g. g; last = h }

-- lines for each node are so after more lines
still : {s : State} {q : Pen} {cs : List Claim} {l : ℕ} {k : Claim} {c : ℕ → ℕ} {from to : List ℕ} (a : More s cs q l k) → to ≡ from → LineForEach s cs c from
    → LineForEach s a.claims c to
still a e N x h = rw e (a.older _ _ (N x h))

module _ {p o : Pen} {x : Rung} {l : ℕ} {m : Line} (em : m ≡ line 2 x.down.place x.down.parent 0) (M : NextLine p m o l) where
  pub descended_child : x.down.into ≡ x.low → Descended p x o l
  descended_child d =
      let P = next_line em M in
      record {
        continues = goes_line P;
        to = P.to;
        low = omega (arith, P.count);
        high = omega (arith, P.count);
        last = omega (arith, P.count, P.number);
        more = λ s cs c W N L. rw (← d) (written_more s W P (claim_child s cs x.down.parent x.down.place x.down.into L.step));
      }

  pub descended_same : {n q : Pen} {k r : ℕ} {y : Line} → Linked o (get_or o.to x.down.into 0) (get_or o.to x.low 0) n k → y ≡ line 5 0 l k → NextLine n y q r
      → Descended p x q r
  descended_same {n} {q} {k} {r} K ey Y =
      let P = next_line em M in
      let Q = next_line ey Y in
      record {
        continues = goes_on (goes_line P) (goes_on K.continues (goes_line Q));
        to = Q.to ∙ (K.to ∙ P.to);
        low = omega (arith, P.count, K.count, Q.count);
        high = omega (arith, P.count, K.count, Q.count);
        last = omega (arith, Q.count, Q.number);
        more = λ s cs c W N L.
            let a = written_more s W P (claim_child s cs x.down.parent x.down.place x.down.into L.step) in
            let A : LineForEach s a.claims c o.to = still a P.to N in
            let low : ClaimAt a.claims (get_or o.to x.low 0) (same x.low (c x.down.into)) = rw L.together (A x.low L.low_known) in
            let b = K.more s a.claims x.down.into x.low (c x.down.into) a.written (A x.down.into L.child_known) low in
            more_more s a (more_more s b
            (written_more s b.written Q (claim_below_same s b.claims l k x.down.parent x.down.into x.low (b.older l _ a.last) b.last)));
      }

-- ---- up to u

pub arrived_there : {p : Pen} {u w l : ℕ} → u ≡ w → Arrived p u w l p l
arrived_there {p} e =
    record {
      continues = goes_none p;
      high = omega arith;
      last = λ h. h;
      more = λ s cs c v W N hu hw d h. rw e (stays W h);
    }

pub arrived : {p o q : Pen} {u w l k r : ℕ} {y : Line} → Linked p (get_or p.to u 0) (get_or p.to w 0) o k → y ≡ line 5 0 k l → NextLine o y q r → Arrived p u w l q r
arrived {p} {o} {q} {u} {w} {l} {k} K ey Y =
    let Q = next_line ey Y in
    record {
      continues = goes_on K.continues (goes_line Q);
      high = omega (arith, K.count, Q.count);
      last = λ h. omega (arith, Q.count, Q.number);
      more = λ s cs c v W N hu hw d h.
          let there : ClaimAt cs (get_or p.to w 0) (same w (c u)) = rw d at (N w hw) in
          let a = K.more s cs u w (c u) W (N u hu) there in
          more_more s a (written_more s a.written Q (claim_same_below s a.claims k l u w v a.last (a.older l _ h)));
    }

-- ---- all the steps

-- the low node of step i is the upper end of those before it
low_end : (w : ℕ) (xs : List Rung) (i : ℕ) (d : Rung) → Connected w xs → i < length xs → (get_or xs i d).low ≡ upper w (take i xs)
low_end w [] i d C h = absurd (omega arith)
low_end w (x ∷ xs) zero d C h = C.0
low_end w (x ∷ xs) (suc i) d C h = low_end x.down.parent xs i d C.1 (omega arith)

upper_known : {s : State} {c : ℕ → ℕ} (w : ℕ) (xs : List Rung) → IsNode s w → All (Link s c) xs → IsNode s (upper w xs)
upper_known w [] h L = h
upper_known w (x ∷ xs) h L = upper_known x.down.parent xs (L 0 x (omega arith)).parent_known (λ k d l. L (suc k) d (omega arith))

module _ {p : Pen} {xs : List Rung} {l : ℕ} where
  pub climbing_none : Climbing p xs l 0 p l
  climbing_none =
      record {
        continues = goes_none p;
        to = refl;
        high = omega arith;
        last = λ h. h;
        more = λ s cs c w v W N C L h. stays W h;
      }

  module _ {i : ℕ} {q : Pen} {k : ℕ} (C : Climbing p xs l i q k) where
    pub climbing_more : {o n : Pen} {y r : ℕ} {m : Line} (d : Rung) → i < length xs → Descended q (get_or xs i d) o y → m ≡ line 5 0 y k → NextLine o m n r
        → Climbing p xs l (i + 1) n r
    climbing_more {o} {n} {y} {r} d h D em M =
        let P = next_line em M in
        let x = get_or xs i d in
        record {
          continues = goes_on C.continues (goes_on D.continues (goes_line P));
          to = P.to ∙ (D.to ∙ C.to);
          high = omega (arith, C.high, D.high, P.count);
          last = λ z. omega (arith, P.count, P.number);
          more = λ s cs c w v W N G L z.
              let a = C.more s cs c w v W N G L z in
              let b = D.more s a.claims c a.written (still a C.to N) (L i d h) in
              let low : ClaimAt a.claims k (below x.low v) = rw (low_end w xs i d G h) a.last in
              rw (add-one i, take-suc xs i d h, upper_more w (take i xs) x)
              (more_more s a (more_more s b
              (written_more s b.written P (claim_below_below s b.claims y k x.down.parent x.low v b.last (b.older k _ low)))));
        }

    pub climbed : i ≡ length xs → Climbed p xs l q k
    climbed e =
        record {
          continues = C.continues;
          to = C.to;
          high = rw e at C.high;
          last = C.last;
          more = λ s cs c w v W N G L z. (rw (take_all i xs (omega (arith, e))) at (C.more s cs c w v W N G L z));
        }

-- the first step, those past it, and u
pub ascended : {p o q r : Pen} {u w l k j : ℕ} (xs : List Rung) (d : Rung) → 1 ≤ length xs → Descended p (get_or xs 0 d) o l
    → Climbed o (take (length xs - 1) (drop 1 xs)) l q k → ((v : ℕ) → w ≡ upper v xs) → Arrived q u w k r j → Ascended p xs u r
ascended [] d h D K t A = absurd (omega arith)
ascended {p} {o} {q} {r} {u} {w} {l} {k} {j} (x ∷ xs) d h D K t A =
    let all : take (length (x ∷ xs) - 1) xs ≡ xs = take_all (length (x ∷ xs) - 1) xs (omega arith) in
    let U : Climbed o xs l q k = rw all at K in
    let end : r.lines ≡ j + 1 = A.last (U.last D.last) in
    record {
      continues = goes_on D.continues (goes_on U.continues A.continues);
      low = omega (arith, D.low, U.continues.low, A.continues.low);
      high = omega (arith, D.high, U.high, A.high);
      more = λ s cs c v W N C L hu e.
          let a = D.more s cs c W N (L 0 d (omega arith)) in
          let first : ClaimAt a.claims l (below x.down.parent v) = rw C.0 at a.last in
          let b = U.more s a.claims c x.down.parent v a.written (still a D.to N) C.1 (λ k d l. L (suc k) d (omega arith)) first in
          let top : IsNode s w = rw (t v) (upper_known x.down.parent xs (L 0 d (omega arith)).parent_known (λ k d l. L (suc k) d (omega arith))) in
          let same : c w ≡ c u = rw (t v) e in
          let high : ClaimAt b.claims k (below w v) = rw (t v) b.last in
          let m = A.more s b.claims c v b.written (still b U.to (still a D.to N)) hu top same high in
          let z : r.lines - 1 ≡ j = omega (arith, end) in
          rw z (more_more s a (more_more s b m));
    }
