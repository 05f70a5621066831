-- `bench_ffi::ffi_settle` meets its contract.
use Rattle.bench_ffi.proofs.PlacedLaws.{settled_placed}
use Rattle.bench_ffi.proofs.ffi_settle.Goals as goal

pub put_entries-requires-clause-placed : goal.put_entries-requires-clause-placed
put_entries-requires-clause-placed c = rw c.as_slice.ensures.value (settled_placed c.requires c.settle-s.ensures.settled)
