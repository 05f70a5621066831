-- What each rule's line claims, and a pen's lines with one more.
use mathlib.Core.Path.{◌≡◌, refl, sym, ◌∙◌}
use mathlib.Core.List.{List, [], ◌∷◌, ◌++◌}
use mathlib.Core.Option.{some}
use Prim.Native.Nat.{ℕ, zero, suc, ◌+◌, ◌*◌, ◌≤◌, ◌<◌}
use native.Mathlib.Omega.{arith}
use lib.ListN.{length, get_or, length-append}
use borrow.Author.Tests.{eq-eqb, lt-ltb}
use Rattle.graph.specs.State.{State, IsNode}
use Rattle.graph.specs.Lines.{Line, Claim, same, below, by_equation, by_child, down_of, tidy, by_rule, claim_of}
use Rattle.graph.specs.Goals.{ends, last_of}
use Rattle.graph.proofs.AppendLaws.{checked_claim}
use Rattle.base.proofs.ListLaws.{found_append, found_last}
use Rattle.base.proofs.TabLaws.{tab_none, tab_one_more, tab_same}
use Rattle.proof_lines.specs.Codec.{line_at, first_lines, line, Put}
use Rattle.proof_lines.specs.Proof.{Kept, Concludes}
use Rattle.write_runs.specs.declared.Pen.{Pen}
use Rattle.write_runs.specs.Pens.{Continues, NextLine}
use Rattle.write_runs.specs.Written.{ClaimAt, LinesClaim, More}

-- ---- what a line claims

module _ (s : State) (cs : List Claim) where
  pub claim_equation : (n a b : ℕ) → by_equation s.equations n ≡ some (same a b) → claim_of s cs (line 1 0 n 0) ≡ some (same a b)
  unfolding claim_of tidy by_rule
  claim_equation n a b h = h

  pub claim_child : (u p v : ℕ) → by_child s.nodes u p ≡ some (below u v) → claim_of s cs (line 2 p u 0) ≡ some (below u v)
  unfolding claim_of tidy by_rule
  claim_child u p v h = h

  pub claim_reflexivity : (u : ℕ) → IsNode s u → claim_of s cs (line 3 0 u 0) ≡ some (same u u)
  unfolding claim_of tidy by_rule
  claim_reflexivity u h = rw (lt-ltb u (length s.nodes) h)

  pub claim_symmetry : (i u v : ℕ) → ClaimAt cs i (same u v) → claim_of s cs (line 4 0 i 0) ≡ some (same v u)
  unfolding claim_of tidy by_rule
  claim_symmetry i u v h = rw h

  pub claim_transitivity : (i j u v w : ℕ) → ClaimAt cs i (same u v) → ClaimAt cs j (same v w) → claim_of s cs (line 5 0 i j) ≡ some (same u w)
  unfolding claim_of tidy by_rule
  claim_transitivity i j u v w h k = rw (h, k, eq-eqb v v refl)

  pub claim_below_same : (i j u v w : ℕ) → ClaimAt cs i (below u v) → ClaimAt cs j (same v w) → claim_of s cs (line 5 0 i j) ≡ some (below u w)
  unfolding claim_of tidy by_rule
  claim_below_same i j u v w h k = rw (h, k, eq-eqb v v refl)

  pub claim_same_below : (i j u v w : ℕ) → ClaimAt cs i (same u v) → ClaimAt cs j (below v w) → claim_of s cs (line 5 0 i j) ≡ some (below u w)
  unfolding claim_of tidy by_rule
  claim_same_below i j u v w h k = rw (h, k, eq-eqb v v refl)

  pub claim_below_below : (i j u v w : ℕ) → ClaimAt cs i (below u v) → ClaimAt cs j (below v w) → claim_of s cs (line 5 0 i j) ≡ some (below u w)
  unfolding claim_of tidy by_rule
  claim_below_below i j u v w h k = rw (h, k, eq-eqb v v refl)

  pub claim_down : (i p u v a b : ℕ) → ClaimAt cs i (same u v) → down_of s.nodes p (same u v) ≡ some (same a b) → claim_of s cs (line 6 p i 0) ≡ some (same a b)
  unfolding claim_of tidy by_rule
  claim_down i p u v a b h k = rw h k

-- ---- one more line

last_of_lem : (cs : List Claim) (n : ℕ) (c : Claim) → length cs ≡ suc n → ClaimAt cs n c → last_of cs ≡ ends c
last_of_lem [] n c e h = absurd (omega arith)
last_of_lem (d ∷ []) zero c e h = cc
last_of_lem (d ∷ []) (suc n) c e h = absurd (omega arith)
last_of_lem (d ∷ (f ∷ cs)) zero c e h = absurd (omega arith)
last_of_lem (d ∷ (f ∷ cs)) (suc n) c e h = last_of_lem (f ∷ cs) n c (omega arith) h

-- lines that lie before the place of a store are as they were
line_before : (buf out : List ℕ) (n k : ℕ) → ((i : ℕ) → i < 8 * n → get_or out i 0 ≡ get_or buf i 0) → k < n → line_at out k ≡ line_at buf k
line_before buf out n k f h =
    let e0 : get_or out (8 * k) 0 ≡ get_or buf (8 * k) 0 = f _ (omega arith) in
    let e1 : get_or out (8 * k + 1) 0 ≡ get_or buf (8 * k + 1) 0 = f _ (omega arith) in
    let e2 : get_or out (8 * k + 2) 0 ≡ get_or buf (8 * k + 2) 0 = f _ (omega arith) in
    let e3 : get_or out (8 * k + 2 + 1) 0 ≡ get_or buf (8 * k + 2 + 1) 0 = f _ (omega arith) in
    let e4 : get_or out (8 * k + 4) 0 ≡ get_or buf (8 * k + 4) 0 = f _ (omega arith) in
    let e5 : get_or out (8 * k + 4 + 1) 0 ≡ get_or buf (8 * k + 4 + 1) 0 = f _ (omega arith) in
    let e6 : get_or out (8 * k + 6) 0 ≡ get_or buf (8 * k + 6) 0 = f _ (omega arith) in
    let e7 : get_or out (8 * k + 6 + 1) 0 ≡ get_or buf (8 * k + 6 + 1) 0 = f _ (omega arith) in
    cc

-- a line put at the end is one line more
lines_more : {buf out : List ℕ} {n : ℕ} {l : Line} → Put buf n l out → first_lines (n + 1) out ≡ first_lines n buf ++ (l ∷ [])
unfolding first_lines
lines_more {buf} {out} {n} {l} p =
    rw (tab_one_more n (line_at out), tab_same n (line_at out) (line_at buf) (λ k h. line_before buf out n k p.before h), p.at)

module _ (s : State) where
  pub written_none : (p : Pen) → p.lines ≡ 0 → LinesClaim s p []
  unfolding first_lines
  written_none p e = record { count = sym e; passes = rw (e, tab_none (line_at p.buf.now)) }

  -- the next line, whose claim is c
  pub written_more : {p q : Pen} {cs : List Claim} {l : Line} {c : Claim} {r : ℕ}
      → LinesClaim s p cs → NextLine p l q r → claim_of s cs l ≡ some c → More s cs q r c
  written_more {p} {q} {cs} {l} {c} {r} w P h =
      record {
        claims = cs ++ (c ∷ []);
        written =
            record {
              count = rw length-append (omega (arith, w.count, P.count));
              passes = rw (P.count, lines_more P.line) (checked_claim s (first_lines p.lines p.buf.now) cs l c w.passes h);
            };
        older = λ i d g. found_append cs (c ∷ []) i d g;
        last = rw P.number (found_last cs p.lines c w.count);
      }

  -- what is written after more is more
  pub more_more : {cs : List Claim} {mid out : Pen} {k l : ℕ} {c d : Claim} (w : More s cs mid k c) → More s w.claims out l d → More s cs out l d
  more_more w v =
      record { claims = v.claims; written = v.written; older = λ i d g. v.older i d (w.older i d g); last = v.last }

  -- the last line's claim is what the lines conclude
  pub concludes : (n : ℕ) {q : Pen} {cs : List Claim} {c : Claim} → q.lines ≡ n + 1 → LinesClaim s q cs → ClaimAt cs n c → Concludes s c q.lines q.buf.now
  concludes n {q} {cs} {c} e w h = rw w.passes (last_of_lem cs n c (omega (arith, w.count, e)) h)

-- ---- a pen goes on

pub kept_kept : {buf mid out : List ℕ} {n m : ℕ} → n ≤ m → Kept n buf mid → Kept m mid out → Kept m buf out
kept_kept h k l = record { size = l.size ∙ k.size; past = λ i g. l.past i g ∙ k.past i (omega arith) }

pub kept_put : {buf out : List ℕ} {n m : ℕ} {l : Line} → m ≡ n + 1 → Put buf n l out → Kept m buf out
kept_put e p = record { size = p.size; past = λ i h. p.past i (omega arith) }

pub kept_none : {buf : List ℕ} (n : ℕ) → Kept n buf buf
kept_none n = record { size = refl; past = λ i h. refl }

pub goes_none : (p : Pen) → Continues p p
goes_none p = record { same_reference = refl; nodes = refl; low = omega arith; kept = record { size = refl; past = λ i h. refl } }

pub goes_line : {p q : Pen} {l : Line} {r : ℕ} → NextLine p l q r → Continues p q
goes_line P =
    record {
      same_reference = P.same_reference;
      nodes = P.nodes;
      low = omega (arith, P.count);
      kept = record { size = P.line.size; past = λ i h. P.line.past i (omega (arith, P.count)) };
    }

pub goes_on : {p q r : Pen} → Continues p q → Continues q r → Continues p r
goes_on C D =
    record {
      same_reference = D.same_reference ∙ C.same_reference;
      nodes = D.nodes ∙ C.nodes;
      low = omega (arith, C.low, D.low);
      kept = kept_kept D.low C.kept D.kept;
    }
