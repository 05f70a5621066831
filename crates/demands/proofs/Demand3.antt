-- Demand 3: every list of calls is answered as the book answers it.
use mathlib.Core.Path.{◌≡◌, refl, sym, ap, ◌∙◌, subst}
use mathlib.Core.List.{List, [], ◌∷◌, map}
use Prim.Native.Nat.{ℕ}
use lib.ListN.{length}
use Rattle.graph.specs.State.{State, empty_state, OneArity}
use Rattle.graph.specs.Solution.{Solution}
use Rattle.graph.specs.Book as book
use Rattle.unifier.specs.Views.{Valid, state_of, packed, fresh_workspace}
use Rattle.unifier.specs.Replies.{said, node_number, is_held, is_gone}
use Rattle.unifier.specs.Answers.{Follows}
use Rattle.unifier.specs.Equate.{Equates}
use Rattle.unifier.specs.declared.Workspace.{Workspace}
use Rattle.unifier.specs.declared.Outcome.{Outcome}
use Rattle.demands.specs.Calls.{LentCall, Result, Ran, variable_declared, functor_declared, equation_offered, withdrawn, all_cleared, RanAll, over, next, workspace_in, workspace_after, fed, said_of}
use Rattle.demands.specs.History.{Proved, Agrees, AllAgree, none_left, one_more, Offerable, OfferDecided, Demand3}
use Rattle.unifier.proofs.PackedLaws.{packed_lists, fresh_valid, fresh_state, fresh_packed}
use Rattle.demands.proofs.Decides.{shown_by, decides}

-- one call, beside the book that has the workspace's two lists
record Step (w : Workspace) (c : LentCall) (r : Result) : Type 0 where
  pub number : ℕ
  pub refusal : book.Refusal (state_of w) (fed c) number
  pub agrees : Agrees (state_of w) c r (book.answer (state_of w) (fed c) number)

module _ (w : Workspace) (v : Valid w) where
  -- a call that gives an `Outcome`
  by_contract : {A : Type 0} (says : A → book.BookReply) (c : LentCall) (r : Result) (o : Outcome A) (f : Follows says w (fed c) o) → said_of r ≡ said says o.reply
      → workspace_in r ≡ o.workspace → Proved (state_of w) c r → Step w c r
  by_contract says c r o f x y q =
      let a : book.Transition = book.answer (state_of w) (fed c) f.number in
      let z : workspace_in r ≡ packed a.state = y ∙ f.workspace in
      let ok : Valid (workspace_in r) = subst Valid (sym y) f.valid in
      record {
        number = f.number;
        refusal = f.refusal;
        agrees = record { reply = x ∙ f.reply; workspace = z; lists = packed_lists a.state (workspace_in r) z ok; valid = ok; proved = q };
      }

  step : (c : LentCall) (r : Result) → Ran w c r → Step w c r
  step c r (variable_declared {o} a) = by_contract node_number c r o (a.follows v) refl refl tt
  step c r (functor_declared {o = o} a) = by_contract node_number c r o (a.follows v) refl refl tt
  step c r (equation_offered {e} {before} {after} {o} q) =
      let f : Follows is_held w (book.equate e (length before)) o = q.answers.follows v in
      by_contract is_held c r o f refl refl (shown_by (state_of w) e before after f.number o.reply f.refusal f.reply q.written)
  step c r (withdrawn {n} {o} a) = by_contract is_gone c r o (a.follows v) refl refl tt
  step c r (all_cleared e) = record {
    number = 0;
    refusal = refl;
    agrees = record { reply = refl; workspace = e ∙ fresh_packed; lists = ap state_of e ∙ fresh_state; valid = subst Valid (sym e) fresh_valid; proved = tt };
  }

-- a list of calls, from a workspace that holds s
record All (s : State) (w : Workspace) (cs : List LentCall) (rs : List Result) : Type 0 where
  pub answers : List book.Transition
  pub state : State
  pub runs : book.Runs s (map fed cs) answers state
  pub agree : AllAgree s cs rs answers
  pub workspace : workspace_after w rs ≡ packed state
  pub lists : state_of (workspace_after w rs) ≡ state
  pub valid : Valid (workspace_after w rs)

-- one call more at the front, from the state that the workspace holds
first : (w : Workspace) (c : LentCall) (r : Result) (cs : List LentCall) (rs : List Result) (t : Step w c r)
    → All (book.answer (state_of w) (fed c) t.number).state (workspace_in r) cs rs → All (state_of w) w (c ∷ cs) (r ∷ rs)
first w c r cs rs t a = record {
  answers = book.answer (state_of w) (fed c) t.number ∷ a.answers;
  state = a.state;
  runs = book.step t.number t.refusal a.runs;
  agree = one_more t.agrees a.agree;
  workspace = a.workspace;
  lists = a.lists;
  valid = a.valid;
}

all : (s : State) {w : Workspace} {cs : List LentCall} {rs : List Result} → Valid w → w ≡ packed s → state_of w ≡ s → RanAll w cs rs → All s w cs rs
all s v p e over = record { answers = []; state = s; runs = book.over; agree = none_left; workspace = p; lists = e; valid = v }
all s v p e (next {w} {c} {r} {cs} {rs} one more) =
    let t : Step w c r = step w v c r one in
    let a : book.Transition = book.answer (state_of w) (fed c) t.number in
    subst (λ (x : State). All x w (c ∷ cs) (r ∷ rs)) e
    (first w c r cs rs t (all a.state t.agrees.valid t.agrees.workspace t.agrees.lists more))

-- demand 3
pub faithful : Demand3
faithful calls results ran =
    let a : All empty_state fresh_workspace calls results = all empty_state fresh_valid fresh_packed fresh_state ran in
    record {
      answers = a.answers;
      state = a.state;
      runs = a.runs;
      agree = a.agree;
      workspace = a.workspace;
      lists = a.lists;
      valid = a.valid;
      solvable = subst Solution a.lists a.valid.solution;
      one_arity = subst (λ (s : State). OneArity s.nodes) a.lists a.valid.shape.terms.one_arity;
      decides = λ e before after o.
          subst (λ (s : State). Offerable s e before → Equates (workspace_after fresh_workspace results) e before after o → OfferDecided s e before after o.reply) a.lists
          (decides (workspace_after fresh_workspace results) a.valid e before after o);
    }
