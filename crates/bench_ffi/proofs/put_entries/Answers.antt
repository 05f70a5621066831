-- `bench_ffi::put_entries` meets its contract.
use Rattle.std.proofs.Common.{rules}
use Rattle.solve_trace.specs.declared.Entry.TheVariants.{Equation}
use Rattle.bench_ffi.specs.Parts.{entry_number}
use Rattle.bench_ffi.proofs.MapLaws.{map_more}
use Rattle.bench_ffi.proofs.put_entries.Goals as goal

pub loop-k-preserved : goal.loop-k-preserved
loop-k-preserved c =
    map_more entry_number c.args.trace.now c.args.entries.now _ c.loop-k.k (Equation 0) _ c.loop-k.invariant c.number_of.ensures (search rules) (search rules)
