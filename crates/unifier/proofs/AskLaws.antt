-- Compare and class, which leave the workspace: a law for each way out.
use mathlib.Core.Path.{◌≡◌, refl}
use mathlib.Core.List.{List}
use mathlib.Core.Option.{none, some}
use Prim.Native.Nat.{ℕ, ◌≤◌, ◌<◌}
use lib.ListN.{length}
use borrow.Author.Tests.{lt-ltb, le-ltb}
use Rattle.std.specs.Prelude.{Ok, Err}
use Rattle.refusals.specs.Numbers.{numbered}
use Rattle.refusals.specs.declared.Refusal.TheVariants as refusal
use Rattle.solve_classes.specs.Members.{ClassOf}
use Rattle.solve_classes.specs.declared.Figures.{Figures}
use Rattle.store.proofs.ViewLaws.{nodes_length}
use Rattle.unifier_respond.specs.declared.Standing.{Standing}
use Rattle.unifier.specs.Views.{state_of, Valid}
use Rattle.unifier.specs.Replies.{outcome}
use Rattle.unifier.specs.Compare.{refusal_of, Stands, Compares}
use Rattle.unifier.specs.Class.{Classifies}
use Rattle.unifier.specs.declared.Workspace.{Workspace}

-- ---- compare

module _ (w : Workspace) (u v : ℕ) (before : List ℕ) where
  pub compare_no_workspace : (Valid w → ⊥) → Compares w u v before before (outcome (Err refusal.NotAWorkspace) w)
  compare_no_workspace bad = record { refuses = λ _. (refl, refl); replies = λ ok. absurd (bad ok); workspace = refl }

  pub compare_refused : Valid w → (k : ℕ) → refusal_of (state_of w) u v (length before) ≡ some k → Compares w u v before before (outcome (Err (numbered k)) w)
  compare_refused ok k e = record { refuses = λ bad. absurd (bad ok); replies = λ _. rw e (refl, refl); workspace = refl }

  pub compare_stands : Valid w → (after : List ℕ) (r : Standing) → refusal_of (state_of w) u v (length before) ≡ none → Stands (state_of w) u v before after r
      → Compares w u v before after (outcome (Ok r) w)
  compare_stands ok after r e s = record { refuses = λ bad. absurd (bad ok); replies = λ _. rw e s; workspace = refl }

-- ---- class

module _ (w : Workspace) (u : ℕ) where
  pub class_no_workspace : (Valid w → ⊥) → Classifies w u (outcome (Err refusal.NotAWorkspace) w)
  class_no_workspace bad = record { refuses = λ _. refl; replies = λ ok. absurd (bad ok); workspace = refl }

  pub class_unknown : Valid w → w.terms.count ≤ u → Classifies w u (outcome (Err refusal.UnknownNode) w)
  class_unknown ok h = record { refuses = λ bad. absurd (bad ok); replies = λ _. rw (nodes_length w.terms, le-ltb u w.terms.count h) refl; workspace = refl }

  pub class_told : Valid w → u < w.terms.count → (k : Figures) → ClassOf (state_of w) u k.number k.size → Classifies w u (outcome (Ok k) w)
  class_told ok h k c = record { refuses = λ bad. absurd (bad ok); replies = λ _. rw (nodes_length w.terms, lt-ltb u w.terms.count h) c; workspace = refl }
