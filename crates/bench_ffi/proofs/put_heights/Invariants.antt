-- `bench_ffi::put_heights` meets its contract.
use Rattle.std.proofs.Common.{◌≡◌, map}
use lib.Seq.{paste}
use Rattle.byte_option.specs.Bytes.{byte_of}
use Rattle.bench_ffi.proofs.put_heights.Given as goal

abbrev pub invariant-loop-c : goal.invariant-loop-c
invariant-loop-c l = l.height ≡ paste l.initial.height 0 (map byte_of l.heights) l.c
