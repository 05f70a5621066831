-- The lines of an entry's reason.
use mathlib.Core.Path.{◌≡◌, ◌∙◌}
use mathlib.Core.List.{List}
use mathlib.Core.Option.{some}
use Prim.Native.Nat.{ℕ, suc, ◌+◌}
use native.Mathlib.Omega.{arith}
use native.Mathlib.Numerals.{add-one}
use lib.ListN.{get_or}
use borrow.Author.Tests.{eq-eqb}
use Rattle.graph.specs.State.{functor, State, IsNode, NodeAt, ChildAt, EqualLabels}
use Rattle.graph.specs.Lines.{Line, same, by_equation, down_of}
use Rattle.base.proofs.ListLaws.{found_lt}
use Rattle.store.specs.declared.Equations.{Equations}
use Rattle.solve_classes.specs.Table.{class}
use Rattle.solve_trace.specs.declared.Entry.{Entry}
use Rattle.solve_trace.specs.declared.Entry.TheVariants as entry
use Rattle.solve_trace.specs.Trace.{Reason, equation, down}
use Rattle.proof_lines.specs.Codec.{line}
use Rattle.write_runs.specs.declared.Pen.{Pen}
use Rattle.write_runs.specs.Pens.{NextLine}
use Rattle.write_runs.specs.Written.{ClaimAt}
use Rattle.write_runs.specs.Runs.{Linked}
use Rattle.write_runs.proofs.Claims.{claim_equation, claim_down, written_more, more_more, goes_line, goes_on}
use Rattle.write_runs.proofs.RunLaws.{next_line}
use Rattle.write_same.specs.Replay.{Names, ReasonWritten}

-- the rule `down`, computed
down_claim : (s : State) (p q j f g x y : ℕ) (cs ds : List ℕ) → NodeAt s p (functor f cs) → NodeAt s q (functor g ds) → EqualLabels f g
    → ChildAt cs j x → ChildAt ds j y → down_of s.nodes (suc j) (same p q) ≡ some (same x y)
down_claim s p q j f g x y cs ds n m l a b = rw (n, m, eq-eqb f g l, a, b)

-- u and v are of one class and equal labels, and their children at place j are x and y
record ByPlace (s : State) (c : ℕ → ℕ) (u v j x y : ℕ) : Type 0 where
  first_known : IsNode s u
  second_known : IsNode s v
  one_class : c u ≡ c v
  children : down_of s.nodes (j + 1) (same u v) ≡ some (same x y)

module _ (s : State) where
  named_line : {n : ℕ} {q : Equations} {t : List ℕ} {e : Entry} {k a b : ℕ} → Names n q s → Reason s t e a b → e ≡ entry.Equation k
      → by_equation s.equations (get_or q.name k 0) ≡ some (same a b)
  named_line {k = k} N (equation {e = d} i h) z = let y : i ≡ k = cc in rw y at (N.named i d h)
  named_line N (down p q j c n m w x y) z = absurd (cc)

  place_line : {t : List ℕ} {e : Entry} {u v j a b : ℕ} → Reason s t e a b → e ≡ entry.Children u v j → ByPlace s (class t) u v j a b
  place_line (equation k h) z = absurd (cc)
  place_line {t} {u = u} {v} {j} (down p q i {f} {g} {x} {y} {cs} {ds} c n m w a b) z =
      let ep : p ≡ u = cc in
      let eq : q ≡ v = cc in
      let ei : i ≡ j = cc in
      let B : ByPlace s (class t) p q i x y =
      record {
        first_known = found_lt s.nodes p _ n;
        second_known = found_lt s.nodes q _ m;
        one_class = c;
        children = rw (add-one i) (down_claim s p q i f g x y cs ds n m w a b);
      } in
      rw (ep, eq, ei) at B

module _ {q : Equations} {p r : Pen} {e : Entry} {l : ℕ} where
  -- an equation's line
  pub equation_written : {k : ℕ} {m : Line} → e ≡ entry.Equation k → m ≡ line 1 0 (get_or q.name k 0) 0 → NextLine p m r l → ReasonWritten q p e r l
  equation_written {k} z em M =
      let P = next_line em M in
      record {
        continues = goes_line P;
        to = P.to;
        high = omega (arith, P.count);
        more = λ s cs t a b N w W L. written_more s W P (claim_equation s cs (get_or q.name k 0) a b (named_line s N w z));
      }

  -- two nodes of one class, and a step down from both
  pub children_written : {o : Pen} {u v j i : ℕ} {m : Line} → e ≡ entry.Children u v j → m ≡ line 6 (j + 1) i 0
      → Linked p (get_or p.to u 0) (get_or p.to v 0) o i → NextLine o m r l → ReasonWritten q p e r l
  children_written {o} {u} {v} {j} {i} z em K M =
      let P = next_line em M in
      record {
        continues = goes_on K.continues (goes_line P);
        to = P.to ∙ K.to;
        high = omega (arith, P.count, K.count);
        more = λ s cs t a b N w W L.
            let B = place_line s w z in
            let second : ClaimAt cs (get_or p.to v 0) (same v (class t u)) = rw B.one_class (L v B.second_known) in
            let k = K.more s cs u v (class t u) W (L u B.first_known) second in
            more_more s k (written_more s k.written P (claim_down s k.claims i (j + 1) u v a b k.last B.children));
      }
