-- The book's calls keep a state proper: children earlier, ends known.
--   proper_declared, proper_offered, proper_removed   by one call
--   proper_answer, proper_runs                        after every answer and every list of calls
use mathlib.Core.Path.{◌≡◌, refl, ap, subst}
use mathlib.Core.Logic.{⊎_elim}
use mathlib.Core.Bool.{Bool, true, false, ◌&&◌}
use mathlib.Core.List.{List, [], ◌∷◌, ◌++◌}
use mathlib.Core.Option.{some}
use Prim.Native.Nat.{ℕ, zero, suc, ◌<◌}
use native.Mathlib.Omega.{arith}
use lib.ListN.{length, get_elem?, length-append}
use lib.Dec.{ltb}
use borrow.Author.Tests.{ltb-true}
use Rattle.graph.specs.State.{Node, functor, Equation, State, state_with, empty_state, Proper, offered}
use Rattle.graph.specs.Book.{Call, declare, equate, withdraw, clear, Transition, removed, all_below, children_of, Refusal, accepted, answer, Runs}
use Rattle.base.proofs.ListLaws.{found_snoc}
use Rattle.graph.proofs.SolutionLaws.{proper_fewer}
use Rattle.graph.proofs.HeldLaws.{removed_fewer}
use Rattle.graph.proofs.AcceptLaws.{declare_accepted, equate_accepted, answer_keeps, runs_keep}

-- numbers that are all below k: each is
pub below_at : (k : ℕ) (cs : List ℕ) (i v : ℕ) → all_below k cs ≡ true → get_elem? cs i ≡ some v → v < k
below_at k [] i v a h = cc
below_at k (c ∷ cs) i v a h = go (ltb c k) refl i a h (below_at k cs)
  where
    go : (t : Bool) → ltb c k ≡ t → (i : ℕ) → t && all_below k cs ≡ true → get_elem? (c ∷ cs) i ≡ some v
        → ((i v : ℕ) → all_below k cs ≡ true → get_elem? cs i ≡ some v → v < k) → v < k
    go true e zero a h r = let q : c ≡ v = cc in subst (λ (x : ℕ). x < k) q (ltb-true c k e)
    go true e (suc i) a h r = r i v a h
    go false e i a h r = cc

pub proper_empty : Proper empty_state
proper_empty = record {
  earlier = λ u f i v cs n c. cc;
  left_known = λ e h. cc h.1;
  right_known = λ e h. cc h.1;
}

module _ (s : State) (P : Proper s) where
  pub proper_declared : (n : Node) → all_below (length s.nodes) (children_of n) ≡ true → Proper (state_with (s.nodes ++ (n ∷ [])) s.equations)
  proper_declared n a = record {
    earlier = λ u f i v cs at ch.
        ⊎_elim (λ o. P.earlier u f i v cs o ch) (λ o. let e : children_of n ≡ cs = ap children_of o.1 in omega (arith, o.0, below_at (length s.nodes) cs i v (rw e at a) ch))
        (found_snoc s.nodes n u (functor f cs) at);
    left_known = λ e h. omega (arith, P.left_known e h, length-append s.nodes (n ∷ []));
    right_known = λ e h. omega (arith, P.right_known e h, length-append s.nodes (n ∷ []));
  }

  pub proper_offered : (e : Equation) → e.left < length s.nodes → e.right < length s.nodes → Proper (offered s e)
  proper_offered e l r = record {
    earlier = P.earlier;
    left_known = λ d h.
        ⊎_elim (λ o. P.left_known d (h.0, o)) (λ o. subst (λ (x : Equation). x.left < length s.nodes) o.1 l) (found_snoc s.equations e h.0 d h.1);
    right_known = λ d h.
        ⊎_elim (λ o. P.right_known d (h.0, o)) (λ o. subst (λ (x : Equation). x.right < length s.nodes) o.1 r) (found_snoc s.equations e h.0 d h.1);
  }

  pub proper_removed : (n : ℕ) → Proper (state_with s.nodes (removed n s.equations))
  proper_removed n = proper_fewer _ s (removed_fewer s n) P

pub proper_accepted : (s : State) → Proper s → (c : Call) → Refusal s c 0 → Proper (accepted s c).state
proper_accepted s P (declare n) v = proper_declared s P n (declare_accepted s n v).known
proper_accepted s P (equate e room) v =
    let k = equate_accepted s e room v in proper_offered s P e k.left_known k.right_known
proper_accepted s P (withdraw n) v = proper_removed s P n
proper_accepted s P clear v = proper_empty

pub proper_answer : (s : State) → Proper s → (c : Call) (k : ℕ) → Refusal s c k → Proper (answer s c k).state
proper_answer = answer_keeps Proper proper_accepted

pub proper_runs : {s d : State} {cs : List Call} {rs : List Transition} → Proper s → Runs s cs rs d → Proper d
proper_runs = runs_keep Proper proper_accepted
