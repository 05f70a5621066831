-- `solve_classes::fresh` meets its contract.
use Rattle.std.proofs.Common.{rules, ◌≡◌, ℕ, ◌<◌, get_or, ap, arith}
use Rattle.solve_classes.specs.Table.{class}
use Rattle.solve_classes.proofs.fresh.Goals as goal

pub returns : goal.returns
returns c =
    let r = c.from_fn.ensures.items in
    let e : (k : ℕ) → k < 64 → get_or c.from_fn.result k 0 ≡ k = λ k h. let z = r.at k 0 h in search (rules, z.2) in
    record { table = record { size = r.long; low = λ i h. omega (arith, e i h); fixed = λ i h. ap (class c.from_fn.result) (e i h) }; alone = e }
