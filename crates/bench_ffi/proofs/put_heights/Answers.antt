-- `bench_ffi::put_heights` meets its contract.
use Rattle.std.proofs.Common.{rules, ◌∙◌}
use Rattle.byte_option.specs.Bytes.{byte_of}
use Rattle.bench_ffi.proofs.MapLaws.{map_more, map_whole}
use Rattle.bench_ffi.proofs.put_heights.Goals as goal

pub loop-c-preserved : goal.loop-c-preserved
loop-c-preserved c =
    map_more byte_of c.args.height.now c.args.heights.now _ c.loop-c.c c.index-heights-c.result _ c.loop-c.invariant
    c.byte.ensures (search rules) (search rules)

pub returns : goal.returns
returns c = c.loop-c.invariant ∙ map_whole byte_of c.args.height.now c.args.heights.now c.loop-c.c (search rules) (search rules)
