-- What the comparison of two labels shows of a clash.
use mathlib.Core.Path.{◌≡◌, refl, sym, ◌∙◌}
use mathlib.Core.Bool.{Bool, true, false, not}
use mathlib.Core.List.{List}
use mathlib.Core.Option.{Option, none, some}
use Prim.Native.Nat.{ℕ}
use Rattle.std.specs.Prelude.{Option as Answer, Some}
use Rattle.graph.specs.State.{Node}
use Rattle.graph.specs.Lines.{same, Functor, functor_at, equal_labels}
use Rattle.graph.specs.Goals.{clash_goal, labels_differ, shows}
use Rattle.proof_rules.specs.Rules.{labels_compared}

differs : (b : Bool) → Some false ≡ Some b → true ≡ not b
differs true e = cc
differs false e = refl

alike : (b : Bool) → (Some false ≡ Some b → ⊥) → false ≡ not b
alike true n = refl
alike false n = absurd (n refl)

differ : (o p : Option Functor) (r : Answer Bool) → r ≡ labels_compared o p → r ≡ Some false → true ≡ labels_differ o p
differ none p r d e = cc
differ (some k) none r d e = cc
differ (some k) (some m) r d e = differs (equal_labels k m) (sym e ∙ d)

no_differ : (o p : Option Functor) (r : Answer Bool) → r ≡ labels_compared o p → (r ≡ Some false → ⊥) → false ≡ labels_differ o p
no_differ none p r d n = refl
no_differ (some k) none r d n = refl
no_differ (some k) (some m) r d n = alike (equal_labels k m) (λ e. n (d ∙ sym e))

-- r is the code's answer
module _ (ns : List Node) (u v : ℕ) (r : Answer Bool) (d : r ≡ labels_compared (functor_at ns u) (functor_at ns v)) where
  pub shows_clash : r ≡ Some false → true ≡ shows ns clash_goal (same u v)
  shows_clash e = differ (functor_at ns u) (functor_at ns v) r d e

  pub shows_no_clash : (r ≡ Some false → ⊥) → false ≡ shows ns clash_goal (same u v)
  shows_no_clash n = no_differ (functor_at ns u) (functor_at ns v) r d n
