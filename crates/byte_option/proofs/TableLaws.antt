-- A place of a table of options, read byte by byte.
use mathlib.Core.Path.{◌≡◌, sym, ◌∙◌}
use mathlib.Core.List.{List}
use Prim.Native.Nat.{ℕ, ◌<◌}
use lib.ListN.{length, get_or}
use borrow.Author.Rules.{get_or_read}
use Rattle.std.specs.Prelude.{Option, None}

-- x is the place's value, as an index reads it, and y is what `get` gives of it
pub got : (h : List (Option ℕ)) {i : ℕ} {x y : Option ℕ} → i < length h → x ≡ get_or h i x → y ≡ get_or h i x → get_or h i None ≡ y
got h {i} {x} l r e = sym (get_or_read h i x l r None) ∙ (r ∙ sym e)
