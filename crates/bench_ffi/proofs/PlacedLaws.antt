-- The entries of a settled closure's trace are places of the arrays, so that each has a number of 16 bits.
use mathlib.Core.List.{List}
use Prim.Native.Nat.{ℕ}
use native.Mathlib.Omega.{arith}
use Rattle.std.specs.List.{All}
use Rattle.std.proofs.lemmas.List.Elements.{All-push}
use Rattle.base.proofs.ListLaws.{found_lt}
use Rattle.graph.specs.State.{State}
use Rattle.store.specs.declared.Terms.{Terms}
use Rattle.store.specs.declared.Equations.{Equations}
use Rattle.store.specs.Views.{equations_of, state_from}
use Rattle.store.proofs.ViewLaws.{equations_length, functor_known, child_known}
use Rattle.solve_trace.specs.declared.Entry.{Entry}
use Rattle.solve_trace.specs.Trace.{Reason, equation, down, Traced, start, merge}
use Rattle.solve_closure.specs.Settled.{Given, ArraysHold, Settled}
use Rattle.solve_closure.specs.declared.Settling.{Settling}
use Rattle.solve_closure.proofs.SettledLaws.{holds_state}
use Rattle.write_needed.specs.Entries.{Placed}

module _ {g : Terms} {q : Equations} (G : Given g q) where
  entry_placed : {t : List ℕ} {e : Entry} {x y : ℕ} → Reason (state_from g q) t e x y → Placed e
  entry_placed (equation {e = d} k h) = omega (arith, found_lt (equations_of q) k d h, equations_length q, G.most)
  entry_placed (down u v j {f} {g = h} {x} {y} {cs} {ds} c n m w a b) =
      let k = functor_known g u f cs n in
      let l = functor_known g v h ds m in
      let d = child_known g u j x (rw k.3 a) in
      (omega (arith, k.0, G.formed.most), (omega (arith, l.0, G.formed.most), omega (arith, d.0, G.formed.arities u k.0)))

  trace_placed : {es : List Entry} {t : List ℕ} → Traced (state_from g q) es t → All Placed es
  trace_placed (start F) = λ k d h. absurd (omega arith)
  trace_placed (merge es e T w d m) = All-push Placed es e (trace_placed T) (entry_placed w)

  pub settled_placed : {es : List Entry} {o : Settling} → ((s : State) → ArraysHold g q s → Settled g s o es) → All Placed es
  settled_placed S = trace_placed (S (state_from g q) (holds_state g q)).traced
