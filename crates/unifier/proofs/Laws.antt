-- What a call gives back is what it promises: a law for each way out.
use mathlib.Core.Path.{◌≡◌, refl, sym, ap, ◌∙◌, subst}
use mathlib.Core.Bool.{true, false}
use mathlib.Core.List.{List, [], ◌∷◌, ◌++◌}
use mathlib.Core.Option.{Option, none, some}
use Prim.Native.Nat.{ℕ, ◌+◌, ◌≤◌, ◌<◌}
use native.Mathlib.Omega.{arith}
use lib.ListN.{length}
use lib.Dec.{eqb}
use borrow.Author.Tests.{ne_eqb, le-leb, lt-leb, lt-ltb, le-ltb}
use Rattle.graph.specs.State.{Node, variable, functor, Equation, state_with, name_held, offered}
use Rattle.graph.specs.Solution.{Solution}
use Rattle.graph.specs.Verdict.{Verdict}
use Rattle.graph.specs.Goals.{clash_goal, cycle_goal}
use Rattle.graph.specs.Book as book
use Rattle.graph.proofs.AcceptLaws.{declare_accepted}
use Rattle.graph.proofs.SolutionKeptLaws.{solution_declared, solution_removed}
use Rattle.proof_lines.specs.Proof.{ProofIn}
use Rattle.proof_rules.specs.Rules.{both_below}
use Rattle.store.specs.Views.{nodes_of, equations_of}
use Rattle.store.specs.Shape.{TermsShape, EquationsShape}
use Rattle.store.proofs.ViewLaws.{nodes_length, equations_length, shape_proper}
use Rattle.store.specs.declared.Terms.{Terms}
use Rattle.store.specs.declared.Equations.{Equations}
use Rattle.unifier_examine.specs.Examines.{Solved}
use Rattle.unifier.specs.Views.{workspace_of, state_of, packed, Valid}
use Rattle.std.specs.Prelude.{Result, Ok, Err, Some, None, is_some}
use Rattle.std.specs.declared.option.Option.{Option as Optional}
use Rattle.store.specs.Operations.{Finds}
use Rattle.store.proofs.RemoveLaws.{held_first, held_none}
use Rattle.refusals.specs.Numbers.{refusal_number, nothing, brings}
use Rattle.refusals.specs.declared.Refusal.{Refusal}
use Rattle.refusals.specs.declared.Refusal.TheVariants as refusal
use Rattle.refusals.proofs.NumberLaws.{number_some}
use Rattle.solve_trace.specs.declared.Entry.{Entry}
use Rattle.unifier.specs.Replies.{node_number, is_held, is_gone, outcome}
use Rattle.unifier.specs.Inner.{Classed, Examining, Early}
use Rattle.unifier.specs.Answers.{Follows, Answers}
use Rattle.unifier.specs.Equate.{Equates}
use Rattle.unifier.specs.declared.Workspace.{Workspace}
use Rattle.unifier.specs.declared.Outcome.{Outcome}
use Rattle.unifier.proofs.PackedLaws.{repacked}

-- ---- what examining a workspace finds

pub solved_valid : (w : Workspace) (table : List ℕ) (trace : List Entry) → Solved w.terms w.equations table trace → Valid w
solved_valid w table trace s = record { shape = s.shape; solution = s.solution }

pub solved_classed : (w : Workspace) (table : List ℕ) (trace : List Entry) → Solved w.terms w.equations table trace → Classed w table
solved_classed w table trace s = record { valid = solved_valid w table trace s; table = s.ready.table; exact = s.exact; alone = s.alone }

-- by the reply of the examination
pub examined_well : (w : Workspace) (trace : List Entry) (r : Result (List ℕ) Refusal) (table : List ℕ) → r ≡ Ok table → Examining w trace r → Solved w.terms w.equations table trace
examined_well w trace r table e x = rw e at x

-- by the reply of the early refusals
pub early_past : (o : Option ℕ) (r : Result (Unit {0}) Refusal) → r ≡ Ok tt → Early o r → o ≡ none
early_past o r e x = rw e at x

-- a name is held exactly where it is found
pub found_tells : (e : Equations) (n : ℕ) (r : Optional ℕ) → Finds e n r → name_held n (equations_of e) ≡ is_some r
found_tells e n None f = held_none e n e.count f (omega arith)
found_tells e n (Some k) f = held_first e n k f.0 f.1

-- ---- any call of the book's

module _ {A : Type 0} (says : A → book.BookReply) (w : Workspace) (c : book.Call) where
  pub no_workspace : (k : Refusal) → k ≡ refusal.NotAWorkspace → (Valid w → ⊥) → Answers says w c (outcome (Err k) w)
  no_workspace k e bad = record { refuses = λ _. rw e; follows = λ v. absurd (bad v) }

  pub followed : Valid w → (o : Outcome A) → Follows says w c o → Answers says w c o
  followed v o f = record { refuses = λ bad. absurd (bad v); follows = λ _. f }

  pub refused_follows : Valid w → (k : Refusal) → book.Refusal (state_of w) c (refusal_number k) → Follows says w c (outcome (Err k) w)
  refused_follows v k r =
      let z : eqb (refusal_number k) 0 ≡ false = ne_eqb (refusal_number k) 0 (number_some k) in
      record {
        number = refusal_number k;
        refusal = r;
        reply = rw z;
        workspace = rw z (repacked w v.shape);
        valid = v;
      }

  pub refused_call : Valid w → (k : Refusal) → book.Refusal (state_of w) c (refusal_number k) → Answers says w c (outcome (Err k) w)
  refused_call v k r = followed v (outcome (Err k) w) (refused_follows v k r)

  pub early_refused : Valid w → (k : Refusal) → book.early (state_of w) c ≡ some (refusal_number k) → Answers says w c (outcome (Err k) w)
  early_refused v k e = refused_call v k (rw e refl)

  pub accepted : Valid w → (a : A) (next : Workspace) → book.Refusal (state_of w) c 0 → says a ≡ (book.accepted (state_of w) c).reply
      → state_of next ≡ (book.accepted (state_of w) c).state → Valid next → Answers says w c (outcome (Ok a) next)
  accepted v a next r e p ok =
      followed v (outcome (Ok a) next)
      (record { number = 0; refusal = r; reply = e; workspace = repacked next ok.shape ∙ ap packed p; valid = ok })

-- ---- declare

grown : (n m : ℕ) (e : Equations) → n ≤ m → EquationsShape n e → EquationsShape m e
grown n m e h s = record {
  name_size = s.name_size;
  left_size = s.left_size;
  right_size = s.right_size;
  few = s.few;
  lefts = λ k l. omega (arith, s.lefts k l);
  rights = λ k l. omega (arith, s.rights k l);
  distinct = s.distinct;
  unused_names = s.unused_names;
  unused_lefts = s.unused_lefts;
  unused_rights = s.unused_rights;
}

module _ (w : Workspace) (n : Node) (v : Valid w) where
  pub refused_full : 64 ≤ w.terms.count → Answers node_number w (book.declare n) (outcome (Err refusal.NodesFull) w)
  refused_full h = early_refused node_number w (book.declare n) v refusal.NodesFull (rw (nodes_length w.terms, le-leb 64 w.terms.count h))

  -- t is the terms with the node at their end
  pub declared : (t : Terms) → nodes_of t ≡ nodes_of w.terms ++ (n ∷ []) → t.count ≡ w.terms.count + 1 → TermsShape t
      → book.early (state_of w) (book.declare n) ≡ none → Answers node_number w (book.declare n) (outcome (Ok w.terms.count) (workspace_of t w.equations))
  declared t q k s e =
      let r : book.Refusal (state_of w) (book.declare n) 0 = rw e refl in
      let p : state_of (workspace_of t w.equations) ≡ (book.accepted (state_of w) (book.declare n)).state = ap (λ (l : List Node). state_with l (equations_of w.equations)) q in
      accepted node_number w (book.declare n) v w.terms.count (workspace_of t w.equations) r
      (ap book.number (sym (nodes_length w.terms))) p
      (record {
        shape = record { terms = s; equations = grown w.terms.count t.count w.equations (omega arith) v.shape.equations };
        solution = subst Solution (sym p)
            (solution_declared (state_of w) (shape_proper w.terms w.equations v.shape) v.solution n (declare_accepted (state_of w) n r).known);
      })

pub variable_early : (w : Workspace) → w.terms.count < 64 → book.early (state_of w) (book.declare variable) ≡ none
variable_early w h = rw (nodes_length w.terms, lt-leb 64 w.terms.count h)

module _ (w : Workspace) (f : ℕ) (cs : List ℕ) (h : w.terms.count < 64) where
  pub refused_many : Valid w → 4 < length cs → Answers node_number w (book.declare (functor f cs)) (outcome (Err refusal.TooManyChildren) w)
  refused_many v k =
      early_refused node_number w (book.declare (functor f cs)) v refusal.TooManyChildren (rw (nodes_length w.terms, lt-leb 64 w.terms.count h, lt-ltb 4 (length cs) k))

  pub refused_unknown : Valid w → length cs ≤ 4 → book.all_below w.terms.count cs ≡ false → Answers node_number w (book.declare (functor f cs)) (outcome (Err refusal.UnknownNode) w)
  refused_unknown v k a =
      early_refused node_number w (book.declare (functor f cs)) v refusal.UnknownNode (rw (nodes_length w.terms, lt-leb 64 w.terms.count h, le-ltb 4 (length cs) k, a))

  module _ (k : length cs ≤ 4) (a : book.all_below w.terms.count cs ≡ true) where
    pub refused_arity : Valid w → book.arity_fits f (length cs) (nodes_of w.terms) ≡ false → Answers node_number w (book.declare (functor f cs)) (outcome (Err refusal.OtherArity) w)
    refused_arity v b =
        early_refused node_number w (book.declare (functor f cs)) v refusal.OtherArity (rw (nodes_length w.terms, lt-leb 64 w.terms.count h, le-ltb 4 (length cs) k, a, b))

    pub functor_early : book.arity_fits f (length cs) (nodes_of w.terms) ≡ true → book.early (state_of w) (book.declare (functor f cs)) ≡ none
    functor_early b = rw (nodes_length w.terms, lt-leb 64 w.terms.count h, le-ltb 4 (length cs) k, a, b)

-- ---- withdraw

module _ (w : Workspace) (n : ℕ) (v : Valid w) where
  pub gone : (e : Equations) → name_held n (equations_of w.equations) ≡ true → equations_of e ≡ book.removed n (equations_of w.equations)
      → EquationsShape w.terms.count e → Answers is_gone w (book.withdraw n) (outcome (Ok tt) (workspace_of w.terms e))
  gone e h q s =
      let p : state_of (workspace_of w.terms e) ≡ (book.accepted (state_of w) (book.withdraw n)).state = ap (state_with (nodes_of w.terms)) q in
      accepted is_gone w (book.withdraw n) v tt (workspace_of w.terms e) (rw h refl) refl p
      (record { shape = record { terms = v.shape.terms; equations = s }; solution = subst Solution (sym p) (solution_removed (state_of w) n v.solution) })

  pub not_held : name_held n (equations_of w.equations) ≡ false → Answers is_gone w (book.withdraw n) (outcome (Err refusal.NameNotHeld) w)
  not_held h = early_refused is_gone w (book.withdraw n) v refusal.NameNotHeld (rw h refl)

-- ---- equate

-- the refusals that leave the lent bytes
module _ (w : Workspace) (e : Equation) (before : List ℕ) where
  equate_refused : (k : Refusal) → brings k ≡ nothing → refusal_number k < 8 → Answers is_held w (book.equate e (length before)) (outcome (Err k) w) → Equates w e before before (outcome (Err k) w)
  equate_refused k b h a = record { answers = a; written = rw b (refl, h) }

  pub equate_no_workspace : (Valid w → ⊥) → Equates w e before before (outcome (Err refusal.NotAWorkspace) w)
  equate_no_workspace bad =
      equate_refused refusal.NotAWorkspace refl (omega arith) (no_workspace is_held w (book.equate e (length before)) refusal.NotAWorkspace refl bad)

  pub equate_early : Valid w → (k : Refusal) → Early (book.early (state_of w) (book.equate e (length before))) (Err k) → Equates w e before before (outcome (Err k) w)
  equate_early v k h = equate_refused k h.1.0 h.1.1 (early_refused is_held w (book.equate e (length before)) v k h.0)

-- the others, from what the solver finds and the writer writes
module _ (w : Workspace) (e : Equation) (before : List ℕ) (v : Valid w) (past : book.early (state_of w) (book.equate e (length before)) ≡ none) where
  pub equate_clash : (n : ℕ) (after : List ℕ) → Verdict (offered (state_of w) e) 8 → ProofIn (offered (state_of w) e) clash_goal n before after
      → Equates w e before after (outcome (Err (refusal.Clash n)) w)
  equate_clash n after r s = record { answers = refused_call is_held w (book.equate e (length before)) v (refusal.Clash n) (rw past r); written = s }

  pub equate_cycle : (n : ℕ) (after : List ℕ) → Verdict (offered (state_of w) e) 9 → ProofIn (offered (state_of w) e) cycle_goal n before after
      → Equates w e before after (outcome (Err (refusal.Cycle n)) w)
  equate_cycle n after r s = record { answers = refused_call is_held w (book.equate e (length before)) v (refusal.Cycle n) (rw past r); written = s }

  pub equate_held : (d : Equations) → equations_of d ≡ equations_of w.equations ++ (e ∷ []) → EquationsShape w.terms.count d → Verdict (offered (state_of w) e) 0
      → Solution (offered (state_of w) e) → Equates w e before before (outcome (Ok tt) (workspace_of w.terms d))
  equate_held d q s r t =
      let p : state_of (workspace_of w.terms d) ≡ offered (state_of w) e = ap (state_with (nodes_of w.terms)) q in
      record {
        answers = accepted is_held w (book.equate e (length before)) v tt (workspace_of w.terms d) (rw past r) refl p
            (record { shape = record { terms = v.shape.terms; equations = s }; solution = subst Solution (sym p) t });
        written = refl;
      }

-- ---- equate's refusals that the lists decide

module _ (w : Workspace) (e : Equation) (room : ℕ) where
  abbrev decided : Option ℕ
  decided = book.early (state_of w) (book.equate e room)

  pub early_short : room < 65536 → Early decided (Err refusal.ShortBuffer)
  early_short h = (rw (lt-ltb room 65536 h), (refl, omega arith))

  module _ (long : 65536 ≤ room) where
    pub early_unknown : both_below w.terms.count e.left e.right ≡ false → Early decided (Err refusal.UnknownNode)
    early_unknown h = (rw (le-ltb room 65536 long, nodes_length w.terms, h), (refl, omega arith))

    module _ (k : both_below w.terms.count e.left e.right ≡ true) where
      pub early_name : name_held e.name (equations_of w.equations) ≡ true → Early decided (Err refusal.NameHeld)
      early_name h = (rw (le-ltb room 65536 long, nodes_length w.terms, k, h), (refl, omega arith))

      pub early_full : name_held e.name (equations_of w.equations) ≡ false → 256 ≤ w.equations.count → Early decided (Err refusal.EquationsFull)
      early_full h f = (rw (le-ltb room 65536 long, nodes_length w.terms, k, h, equations_length w.equations, le-leb 256 w.equations.count f), (refl, omega arith))

      pub early_none : name_held e.name (equations_of w.equations) ≡ false → w.equations.count < 256 → Early decided (Ok tt)
      early_none h f = rw (le-ltb room 65536 long, nodes_length w.terms, k, h, equations_length w.equations, lt-leb 256 w.equations.count f)
