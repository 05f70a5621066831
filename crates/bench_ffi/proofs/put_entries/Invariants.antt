-- `bench_ffi::put_entries` meets its contract.
use Rattle.std.proofs.Common.{◌≡◌, map}
use lib.Seq.{paste}
use Rattle.bench_ffi.specs.Parts.{entry_number}
use Rattle.bench_ffi.proofs.put_entries.Given as goal

abbrev pub invariant-loop-k : goal.invariant-loop-k
invariant-loop-k l = l.trace ≡ paste l.initial.trace 0 (map entry_number l.entries) l.k
