-- What the parts of the engine promise a C caller: the promise of the crate that does the work, in numbers.
--   entry_number    an entry of a trace in 16 bits: an equation's place, below 4,096; or a place of children, counted from 1, and two nodes
--   SettlesAs       a settled closure, its table, its trace and how it ended
--   PeelsAs         the heights of a table's classes as bytes (byte_option's), and how many have none
use Rattle.std.specs.Prelude.{◌≡◌, true, false, List, map, ℕ, ◌+◌, ◌*◌, length, take, Option, Some, None}
use Rattle.byte_option.specs.Bytes.{byte_of}
use Rattle.graph.specs.State.{State}
use Rattle.store.specs.declared.Terms.{Terms}
use Rattle.store.specs.declared.Equations.{Equations}
use Rattle.solve_trace.specs.declared.Entry.{Entry}
use Rattle.solve_trace.specs.declared.Entry.TheVariants as entry
use Rattle.solve_closure.specs.Settled.{ArraysHold, Settled}
use Rattle.solve_closure.specs.declared.Settling.{Settling}
use Rattle.solve_heights.specs.Peel.{Peeled}
use Rattle.solve_heights.specs.declared.Heights.{Heights}
use Rattle.bench_ffi.specs.declared.Ending.{Ending}

abbrev pub entry_number : Entry → ℕ
entry_number (entry.Equation k) = k
entry_number (entry.Children u v j) = (j + 1) * 4096 + u * 64 + v

-- how the closure ended, where there is a clash and where there is none
abbrev pub Ends : Option (ℕ × ℕ) → Ending → Type 0
Ends None o = o.clash ≡ false
Ends (Some c) o = (o.clash ≡ true) × ((o.left ≡ c.0) × (o.right ≡ c.1))

pub record SettlesAs (g : Terms) (e : Equations) (t : List ℕ) (trace : List ℕ) (o : Ending) : Type 0 where
  pub settling : Settling
  pub entries : List Entry
  pub settled : (s : State) → ArraysHold g e s → Settled g s settling entries
  pub table : t ≡ settling.table
  pub steps : o.steps ≡ length entries
  pub numbers : take (length entries) trace ≡ map entry_number entries
  pub ends : Ends settling.clash o

pub record PeelsAs (g : Terms) (table height : List ℕ) (left : ℕ) : Type 0 where
  pub heights : Heights
  pub peeled : Peeled g table heights
  pub numbers : height ≡ map byte_of heights.height
  pub count : left ≡ heights.left
