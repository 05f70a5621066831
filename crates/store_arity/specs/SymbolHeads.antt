-- A table of heads (store's) by the remainder that a node's symbol leaves by 64.
use Rattle.std.specs.Prelude.{◌≡◌, List, ℕ, ◌%◌, ◌<◌, length, get_or, Option, Some, None}
use Rattle.store.specs.Views.{kind_at, symbol_at}
use Rattle.store.specs.declared.Terms.{Terms}

-- each head is a functor node among the first n, and each functor node among them has a head at its symbol's remainder, of its symbol or not
pub record SymbolHeads (t : Terms) (head : List (Option ℕ)) (n : ℕ) : Type 0 where
  pub size : length head ≡ 64
  pub earlier : (h v : ℕ) → h < 64 → get_or head h None ≡ Some v → v < n
  pub functor : (h v : ℕ) → h < 64 → get_or head h None ≡ Some v → kind_at t v ≡ 1
  pub headed : (v : ℕ) → v < n → kind_at t v ≡ 1 → get_or head (symbol_at t v % 64) None ≡ None → ⊥
