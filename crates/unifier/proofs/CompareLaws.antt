-- Compare past its refusals: what the search asks, and the reply to each case.
use mathlib.Core.List.{List}
use Prim.Native.Nat.{ℕ, ◌≤◌}
use mathlib.Core.Path.{◌≡◌}
use mathlib.Core.Bool.{true, false}
use lib.ListN.{length}
use lib.Dec.{ltb}
use Rattle.std.proofs.lemmas.Bool.{and_parts}
use Rattle.proof_rules.specs.Rules.{both_below}
use borrow.Author.Tests.{ltb-true, le-ltb}
use Rattle.store.proofs.ViewLaws.{nodes_length, shape_proper}
use Rattle.unifier_respond.specs.Stands as respond
use Rattle.unifier_respond.specs.declared.Standing.{Standing}
use Rattle.unifier_respond.specs.declared.Standing.TheVariants as standing
use Rattle.unifier.specs.Views.{state_of, Valid}
use Rattle.std.specs.Prelude.{Ok, Err}
use Rattle.refusals.specs.declared.Refusal.TheVariants as refusal
use Rattle.solve_trace.specs.declared.Entry.{Entry}
use Rattle.unifier_examine.specs.Examines.{Solved}
use Rattle.unifier.specs.Replies.{outcome}
use Rattle.unifier.specs.Compare.{Stands, same, below, above, apart, Compares}
use Rattle.unifier.specs.declared.Workspace.{Workspace}
use Rattle.unifier.proofs.AskLaws.{compare_refused, compare_stands}

-- refusal 4
module _ (w : Workspace) (u v : ℕ) (before : List ℕ) (ok : Valid w) where
  pub refused_unknown : 65536 ≤ length before → both_below w.terms.count u v ≡ false → Compares w u v before before (outcome (Err refusal.UnknownNode) w)
  refused_unknown long h = compare_refused w u v before ok 4 (rw (le-ltb (length before) 65536 long, nodes_length w.terms, h))

module _ (w : Workspace) (u v : ℕ) (before table : List ℕ) (trace : List Entry) (c : Solved w.terms w.equations table trace) (k : both_below w.terms.count u v ≡ true) where
  ends : (ltb u w.terms.count ≡ true) × (ltb v w.terms.count ≡ true)
  ends = and_parts _ _ k

  pub known : respond.Known w.terms w.equations u v table trace
  known = record {
    shape = c.shape;
    going = record {
      proper = shape_proper w.terms w.equations c.shape;
      ready = c.ready;
      traced = c.traced;
      exact = c.exact;
    };
    left_known = ltb-true _ _ ends.0;
    right_known = ltb-true _ _ ends.1;
  }

  pub told : 65536 ≤ length before → (after : List ℕ) (r : Standing) → respond.StandingProved (state_of w) u v before after r → Compares w u v before after (outcome (Ok r) w)
  told long after r a =
      compare_stands w u v before (record { shape = c.shape; solution = c.solution }) after r
      (rw (le-ltb (length before) 65536 long, nodes_length w.terms, k))
      (go r a)
    where
      go : (r : Standing) → respond.StandingProved (state_of w) u v before after r → Stands (state_of w) u v before after r
      go (standing.Same n) b = same b.0 b.1
      go (standing.Below n) b = below b.0 b.1.0 b.1.1
      go (standing.Above n) b = above b.0 b.1.0 b.1.1.0 b.1.1.1
      go standing.Apart b = apart b.0 b.1.0 b.1.1.0 b.1.1.1
