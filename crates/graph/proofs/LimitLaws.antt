-- The book's calls keep document 01's limits.
--   Limits                       of nodes, of children, of equations, and names all different
--   limits_answer, limits_runs   after every answer and every list of calls
use mathlib.Core.Path.{subst}
use mathlib.Core.Logic.{⊎_elim}
use mathlib.Core.List.{List, [], ◌∷◌}
use Prim.Native.Nat.{ℕ, ◌≤◌}
use native.Mathlib.Omega.{arith}
use lib.ListN.{length, length-append}
use Rattle.graph.specs.Limits.{node_limit, child_limit, equation_limit}
use Rattle.graph.specs.State.{Node, State, empty_state, NodeAt}
use Rattle.graph.specs.Book.{Call, declare, equate, withdraw, clear, Transition, children_of, Refusal, accepted, answer, Runs}
use Rattle.base.proofs.ListLaws.{found_snoc}
use Rattle.graph.proofs.HeldLaws.{removed_length, Distinct, distinct_snoc, distinct_removed}
use Rattle.graph.proofs.AcceptLaws.{declare_accepted, equate_accepted, answer_keeps, runs_keep}

pub record Limits (s : State) : Type 0 where
  pub nodes_fit : length s.nodes ≤ node_limit
  pub equations_fit : length s.equations ≤ equation_limit
  pub few_children : (u : ℕ) (n : Node) → NodeAt s u n → length (children_of n) ≤ child_limit
  pub names_differ : Distinct s.equations

pub limits_empty : Limits empty_state
limits_empty = record {
  nodes_fit = omega arith;
  equations_fit = omega arith;
  few_children = λ u n h. cc;
  names_differ = tt;
}

pub limits_accepted : (s : State) → Limits s → (c : Call) → Refusal s c 0 → Limits (accepted s c).state
limits_accepted s L (declare n) v =
    let d = declare_accepted s n v in
    record {
      nodes_fit = omega (arith, d.room, length-append s.nodes (n ∷ []));
      equations_fit = L.equations_fit;
      few_children = λ u m h. ⊎_elim (λ o. L.few_children u m o) (λ o. subst (λ (x : Node). length (children_of x) ≤ child_limit) o.1 d.few) (found_snoc s.nodes n u m h);
      names_differ = L.names_differ;
    }
limits_accepted s L (equate e room) v =
    let k = equate_accepted s e room v in
    record {
      nodes_fit = L.nodes_fit;
      equations_fit = omega (arith, k.place, length-append s.equations (e ∷ []));
      few_children = L.few_children;
      names_differ = distinct_snoc s.equations e L.names_differ k.fresh;
    }
limits_accepted s L (withdraw n) v = record {
  nodes_fit = L.nodes_fit;
  equations_fit = omega (arith, L.equations_fit, removed_length n s.equations);
  few_children = L.few_children;
  names_differ = distinct_removed n s.equations L.names_differ;
}
limits_accepted s L clear v = limits_empty

pub limits_answer : (s : State) → Limits s → (c : Call) (k : ℕ) → Refusal s c k → Limits (answer s c k).state
limits_answer = answer_keeps Limits limits_accepted

pub limits_runs : {s d : State} {cs : List Call} {rs : List Transition} → Limits s → Runs s cs rs d → Limits d
limits_runs = runs_keep Limits limits_accepted
