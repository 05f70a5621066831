-- What each run of lines adds.
use mathlib.Core.Path.{◌≡◌, refl, ap, ◌∙◌}
use mathlib.Core.Bool.{cond}
use mathlib.Core.List.{List, []}
use Prim.Native.Nat.{ℕ, ◌+◌, ◌≤◌, ◌<◌}
use native.Mathlib.Omega.{arith}
use lib.ListN.{length, get_or, set}
use lib.Seq.{get_or-set_same, get_or-set_other}
use lib.Dec.{eqb}
use borrow.Author.Count.{below_more}
use borrow.Author.Tests.{eq-eqb, ne_eqb, le-leb, lt-leb}
use Rattle.graph.specs.Limits.{node_limit, buffer_bytes}
use Rattle.graph.specs.State.{State, IsNode}
use Rattle.graph.specs.Lines.{Line, Claim, same}
use Rattle.solve_classes.specs.Table.{class, member_at, merged_class}
use Rattle.base.proofs.SumLaws.{sum_none, sum_more}
use Rattle.proof_lines.specs.Codec.{line}
use Rattle.proof_lines.specs.Proof.{Kept}
use Rattle.write_runs.specs.declared.Pen.{Pen}
use Rattle.write_runs.specs.Pens.{NextLine, Continues}
use Rattle.write_runs.specs.Written.{ClaimAt, LinesClaim, More}
use Rattle.write_runs.specs.Runs.{LineForEach, Rooted, Linked, Bridged, BridgedBack, Started, Absorbed, Rewired}
use Rattle.write_runs.proofs.SizeLaws.{class_size}
use Rattle.write_runs.proofs.Claims.{claim_reflexivity, claim_symmetry, claim_transitivity, written_none, written_more, more_more, kept_kept, goes_none, goes_line, goes_on}

-- what a constructor of lines gives, and that it is put
module _ {p : Pen} {l : Line} {q : Pen} {r : ℕ} where
  pub next_line : {m : Line} → l ≡ m → NextLine p l q r → NextLine p m q r
  next_line e P = rw e at P

pub linked : {p u q : Pen} {i j y r : ℕ} {k m : Line} → k ≡ line 4 0 j 0 → m ≡ line 5 0 i y → NextLine p k u y → NextLine u m q r → Linked p i j q r
linked {i = i} {j} {y} ek em K M =
    let P = next_line ek K in
    let Q = next_line em M in
    record {
      continues = goes_on (goes_line P) (goes_line Q);
      to = Q.to ∙ P.to;
      count = omega (arith, P.count, Q.count);
      last = omega (arith, Q.number, Q.count);
      more = λ s cs a b x w hi hj.
          let u = written_more s w P (claim_symmetry s cs j b x hj) in
          more_more s u (written_more s u.written Q (claim_transitivity s u.claims i y a x b (u.older i _ hi) u.last));
    }

pub bridged : {p u v q : Pen} {l i j y z r : ℕ} {k m n : Line} → k ≡ line 5 0 l j → m ≡ line 4 0 i 0 → n ≡ line 5 0 z y
    → NextLine p k u y → NextLine u m v z → NextLine v n q r → Bridged p l i j q r
bridged {l = l} {i} {j} {y} {z} ek em en K M N =
    let P = next_line ek K in
    let Q = next_line em M in
    let R = next_line en N in
    record {
      continues = goes_on (goes_line P) (goes_on (goes_line Q) (goes_line R));
      to = R.to ∙ (Q.to ∙ P.to);
      count = omega (arith, P.count, Q.count, R.count);
      last = omega (arith, R.number, R.count);
      more = λ s cs a b x k w hr hi hj.
          let u = written_more s w P (claim_transitivity s cs l j a b k hr hj) in
          let v = written_more s u.written Q (claim_symmetry s u.claims i a x (u.older i _ hi)) in
          more_more s u (more_more s v (written_more s v.written R (claim_transitivity s v.claims z y x a k v.last (v.older y _ u.last))));
    }

pub bridged_back : {p u v q : Pen} {l i j y z r : ℕ} {k m n : Line} → k ≡ line 5 0 l j → m ≡ line 4 0 y 0 → n ≡ line 5 0 z i
    → NextLine p k u y → NextLine u m v z → NextLine v n q r → BridgedBack p l i j q r
bridged_back {l = l} {i} {j} {y} {z} ek em en K M N =
    let P = next_line ek K in
    let Q = next_line em M in
    let R = next_line en N in
    record {
      continues = goes_on (goes_line P) (goes_on (goes_line Q) (goes_line R));
      to = R.to ∙ (Q.to ∙ P.to);
      count = omega (arith, P.count, Q.count, R.count);
      last = omega (arith, R.number, R.count);
      more = λ s cs a b x k w hr hi hj.
          let u = written_more s w P (claim_transitivity s cs l j a b k hr hj) in
          let v = written_more s u.written Q (claim_symmetry s u.claims y a k u.last) in
          more_more s u (more_more s v (written_more s v.written R (claim_transitivity s v.claims z i k a x v.last (v.older i _ (u.older i _ hi)))));
    }

-- ---- a line for each node

pub started_none : {q : Pen} → q.lines ≡ 0 → Started q.buf.now q.nodes 0 q
started_none {q} z =
    record {
      nodes = refl;
      count = z;
      kept = record { size = refl; past = λ i h. refl };
      more = λ s h. ([], (written_none s q z, λ i l. absurd (omega arith)));
    }

-- q with line l for node x
abbrev pub renumbered : (q : Pen) (x l : ℕ) → q.nodes ≤ node_limit → length (set q.to x l) ≡ 64 → buffer_bytes ≤ length q.buf.now → Pen
renumbered q x l f e b = record q { to = set q.to x l; few_nodes = f; each_node = e; large_buffer = b }

pub started_more : {buf : List ℕ} {n x y : ℕ} {p q : Pen} {l : Line} {f : q.nodes ≤ node_limit} {s : length (set q.to x y) ≡ 64} {b : buffer_bytes ≤ length q.buf.now} → x < 64
    → l ≡ line 3 0 x 0 → Started buf n x p → NextLine p l q y → Started buf n (x + 1) (renumbered q x y f s b)
started_more {x = x} {y} {p} {q} hx e S P =
    let Q = next_line e P in
    let at : (i : ℕ) → get_or q.to i 0 ≡ get_or p.to i 0 = λ i. ap (λ v. get_or v i 0) P.to in
    let more : q.lines ≡ x + 1 = omega (arith, P.count, S.count) in
    let kept : Kept (x + 1) p.buf.now q.buf.now = rw more at (goes_line P).kept in
    record {
      nodes = P.nodes ∙ S.nodes;
      count = more;
      kept = kept_kept {n = x} (omega arith) S.kept kept;
      more = λ s h.
          let w = S.more s (omega arith) in
          let u = written_more s w.1.0 Q (claim_reflexivity s w.0 x (omega arith)) in (
            u.claims,
            (
              record { count = u.written.count; passes = u.written.passes },
              below_more (λ i. ClaimAt u.claims (get_or (set q.to x y) i 0) (same i i)) x
                  (λ i l. rw (get_or-set_other q.to x i y 0 (λ q. omega (arith, q)), at i) (u.older _ _ (w.1.1 i l)))
                  (rw (get_or-set_same q.to x y 0 (omega (arith, q.each_node))) u.last),
            ),
          );
    }

pub started_rooted : {buf : List ℕ} {n : ℕ} {q : Pen} → Started buf n n q → (s : State) → length s.nodes ≡ n → Rooted s (λ x. x) q
started_rooted S s e =
    let w = S.more s (omega arith) in
    record { claims = w.0; written = w.1.0; number = λ x h. w.1.1 x (omega arith) }

-- ---- a line for each node of a class that goes

module _ {p : Pen} {t : List ℕ} {keep gone l : ℕ} where
  module _ {x : ℕ} {q : Pen} (A : Absorbed p t keep gone l x q) where
    pub absorbed_skip : (class t x ≡ gone → ⊥) → Absorbed p t keep gone l (x + 1) q
    absorbed_skip d =
        record {
          continues = A.continues;
          high = omega (arith, A.high);
          tight = omega (arith, A.tight, sum_more (member_at t gone) x);
          more = λ s cs h w N L.
              let B = A.more s cs h w N L in
              record {
                claims = B.claims;
                written = B.written;
                bridge = B.bridge;
                done =
                    below_more (λ i. IsNode s i → ClaimAt B.claims (get_or q.to i 0) (same i (cond (eqb (class t i) gone) keep (class t i)))) x
                    B.done (λ k. rw (ne_eqb (class t x) gone d) (B.rest x (omega arith) k));
                rest = λ i k. B.rest i (omega arith);
              };
        }

    pub absorbed_take : {r : Pen} {y : ℕ} {k : Line} {f : r.nodes ≤ node_limit} {s : length (set r.to x y) ≡ 64} {b : buffer_bytes ≤ length r.buf.now} → x < p.nodes → class t x ≡ gone
        → k ≡ line 5 0 (get_or q.to x 0) l → NextLine q k r y → Absorbed p t keep gone l (x + 1) (renumbered r x y f s b)
    absorbed_take {r} {y} hx e ek K =
        let P = next_line ek K in
        let at : (i : ℕ) → get_or r.to i 0 ≡ get_or q.to i 0 = λ i. ap (λ v. get_or v i 0) P.to in
        record {
          continues =
              let C = goes_on A.continues (goes_line P) in
              record { same_reference = C.same_reference; nodes = C.nodes; low = C.low; kept = C.kept };
          high = omega (arith, A.high, P.count);
          tight = (let one : member_at t gone x ≡ 1 = (rw (eq-eqb (class t x) gone e)) in omega (arith, A.tight, P.count, sum_more (member_at t gone) x));
          more = λ s cs h w N L.
              let B = A.more s cs h w N L in
              let old : ClaimAt B.claims (get_or q.to x 0) (same x gone) = rw e at (B.rest x (omega arith) (omega arith)) in
              let u = written_more s B.written P (claim_transitivity s B.claims (get_or q.to x 0) l x gone keep old B.bridge) in
              let other : (i : ℕ) (c : Claim) → (i ≡ x → ⊥) → ClaimAt B.claims (get_or q.to i 0) c → ClaimAt u.claims (get_or (set r.to x y) i 0) c =
              λ i c k g. (rw (get_or-set_other r.to x i y 0 k, at i) (u.older _ _ g)) in
              record {
                claims = u.claims;
                written = record { count = u.written.count; passes = u.written.passes };
                bridge = u.older _ _ B.bridge;
                done =
                    below_more (λ i. IsNode s i → ClaimAt u.claims (get_or (set r.to x y) i 0) (same i (cond (eqb (class t i) gone) keep (class t i)))) x
                    (λ i k g. other i _ (λ q. omega (arith, q)) (B.done i k g))
                    (λ k. rw (eq-eqb (class t x) gone e, get_or-set_same r.to x y 0 (omega (arith, hx, p.few_nodes, r.each_node))) u.last);
                rest = λ i k g. other i _ (λ q. omega (arith, q)) (B.rest i (omega arith) g);
              };
        }

-- ---- two classes made one

-- by the last line of three, gone same keep, where these are the classes of a and b
rewired : {p u q : Pen} {t : List ℕ} {l a b r : ℕ} (keep gone : ℕ) → Continues p u → u.to ≡ p.to → u.lines ≡ p.lines + 3
    → ((s : State) (cs : List Claim) → IsNode s a → IsNode s b → LinesClaim s p cs → LineForEach s cs (class t) p.to → ClaimAt cs l (same a b)
    → More s cs u r (same gone keep))
    → ((x : ℕ) → cond (eqb (class t x) gone) keep (class t x) ≡ merged_class (class t) a b x)
    → Absorbed u t keep gone r u.nodes q → Rewired p t l a b q
rewired {p} {u} {q} {t} {r = r} keep gone C to count more merged A =
    record {
      continues = goes_on C A.continues;
      high = omega (arith, A.high, count, C.nodes, p.few_nodes);
      tight = omega (arith, A.tight, class_size t gone u.nodes u.few_nodes, count);
      more = λ s cs e ha hb w N L.
          let v = more s cs ha hb w N L in
          let D = A.more s v.claims (omega (arith, e, C.nodes)) v.written (λ x k. rw to (v.older _ _ (N x k))) v.last in
          record {
            claims = D.claims;
            written = D.written;
            number = λ x k. (rw (merged x) at (D.done x (omega (arith, C.nodes)) k));
          };
    }

module _ {p u q : Pen} {t : List ℕ} {l a b r : ℕ} where
  pub rewired_up : class t a ≤ class t b → BridgedBack p l (get_or p.to a 0) (get_or p.to b 0) u r
      → Absorbed u t (class t a) (class t b) r u.nodes q → Rewired p t l a b q
  rewired_up h B =
      rewired (class t a) (class t b) B.continues B.to B.count
      (λ s cs ha hb w N L. B.more s cs a b (class t a) (class t b) w L (N a ha) (N b hb)) (λ x. rw (le-leb (class t a) (class t b) h))

  pub rewired_down : class t b < class t a → Bridged p l (get_or p.to a 0) (get_or p.to b 0) u r
      → Absorbed u t (class t b) (class t a) r u.nodes q → Rewired p t l a b q
  rewired_down h B =
      rewired (class t b) (class t a) B.continues B.to B.count
      (λ s cs ha hb w N L. B.more s cs a b (class t a) (class t b) w L (N a ha) (N b hb)) (λ x. rw (lt-leb (class t a) (class t b) h))
