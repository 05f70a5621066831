-- What proofs from a trace ask and promise.
--   Shows           a proof of every goal that the claim shows
--   TracedClosure   the table is the closure's, made by the entries
use Rattle.std.specs.Prelude.{◌≡◌, true, List, ℕ}
use Rattle.graph.specs.State.{State}
use Rattle.graph.specs.Lines.{Claim}
use Rattle.graph.specs.Goals.{Goal, shows}
use Rattle.solve_classes.specs.Exact.{Exact}
use Rattle.solve_trace.specs.declared.Entry.{Entry}
use Rattle.solve_trace.specs.Trace.{Traced}
use Rattle.proof_lines.specs.Proof.{ProofIn}

abbrev pub Shows : State → Claim → ℕ → List ℕ → List ℕ → Type 0
Shows s c n before after = (g : Goal) → shows s.nodes g c ≡ true → ProofIn s g n before after

pub record TracedClosure (s : State) (es : List Entry) (t : List ℕ) : Type 0 where
  pub traced : Traced s es t
  pub exact : Exact s t
