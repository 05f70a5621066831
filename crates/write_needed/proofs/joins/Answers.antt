-- `write_needed::joins` meets its contract.
use Rattle.write_needed.proofs.TrimLaws.{rejoins}
use Rattle.write_needed.proofs.joins.Goals as goal

pub returns-then-table-from : goal.returns-then-table-from
returns-then-table-from c =
    λ q. rejoins c.fresh.ensures c.in-Some.ensures c.in-Some-rebuild.ensures (rw (c.from.ensures, c.from-2.ensures) at c.if-table-from.true) (c.paired.ensures q)
