-- What is left of an input at a place.
use mathlib.Core.Path.{◌≡◌, refl, sym, ◌∙◌}
use mathlib.Core.Bool.{Bool, true, false, cond}
use mathlib.Core.List.{List}
use Prim.Native.Nat.{ℕ, ◌+◌, ◌≤◌, ◌<◌}
use native.Mathlib.Omega.{arith}
use lib.ListN.{length}
use lib.Dec.{ltb, leb}
use borrow.Author.Tests.{le-leb, lt-leb, leb-true, leb-false, le-ltb, lt-ltb, ltb-true, ltb-false}
use Rattle.eqtrace_script.specs.Script.{input_limit}
use Rattle.eqtrace_session.specs.Transcript.{too_long}
use Rattle.eqtrace_session.specs.Steps.{left_of}
use Rattle.eqtrace_session.specs.declared.Left.{Left}
use Rattle.eqtrace_session.specs.declared.Left.TheVariants as left

module _ (input : List ℕ) (at i : ℕ) where
  pub left_nothing : length input ≤ at → left.Nothing ≡ left_of input at i
  unfolding left_of
  left_nothing h = rw (le-leb (length input) at h)

  module _ (inside : at < length input) where
    pub left_many : input_limit < i → left.Nothing ≡ left_of input at i
    unfolding left_of
    left_many h = rw (lt-leb (length input) at inside, lt-ltb input_limit i h)

    pub left_long : i ≤ input_limit → input_limit < length input → left.TooLong ≡ left_of input at i
    unfolding left_of
    left_long n h = rw (lt-leb (length input) at inside, le-ltb input_limit i n, lt-ltb input_limit (length input) h)

    pub left_order : i ≤ input_limit → length input ≤ input_limit → left.Order ≡ left_of input at i
    unfolding left_of
    left_order n h = rw (lt-leb (length input) at inside, le-ltb input_limit i n, le-ltb input_limit (length input) h)

  -- a step of a run that leaves nothing has come to the end
  pub left_over : left_of input at i ≡ left.Nothing → length input ≤ input_limit → i ≤ at + 1 → length input ≤ at
  unfolding left_of
  left_over e short placed = go (leb (length input) at) (ltb input_limit i) (too_long input) refl refl e
    where
      go : (x y z : Bool) → leb (length input) at ≡ x → ltb input_limit i ≡ y → cond x left.Nothing (cond y left.Nothing (cond z left.TooLong left.Order)) ≡ left.Nothing → length input ≤ at
      go true y z p q e = leb-true (length input) at p
      go false true z p q e = omega (arith, ltb-true input_limit i q)
      go false false true p q e = cc
      go false false false p q e = cc

  -- where something is left
  pub record Within (z : Bool) : Type 0 where
    pub inside : at < length input
    pub number : i ≤ input_limit
    pub long : too_long input ≡ z

  pub within : (l : Left) → left_of input at i ≡ l → (z : Bool) → cond z left.TooLong left.Order ≡ l → Within z
  unfolding left_of
  within l e z d = go (leb (length input) at) (ltb input_limit i) (too_long input) z refl refl refl (e ∙ sym d)
    where
      go : (x y t z : Bool) → leb (length input) at ≡ x → ltb input_limit i ≡ y → too_long input ≡ t
          → cond x left.Nothing (cond y left.Nothing (cond t left.TooLong left.Order)) ≡ cond z left.TooLong left.Order → Within z
      go true y t true p q r e = cc
      go true y t false p q r e = cc
      go false true t true p q r e = cc
      go false true t false p q r e = cc
      go false false true true p q r e = record { inside = leb-false (length input) at p; number = ltb-false input_limit i q; long = r }
      go false false true false p q r e = cc
      go false false false true p q r e = cc
      go false false false false p q r e = record { inside = leb-false (length input) at p; number = ltb-false input_limit i q; long = r }
