-- `store_shape::ends_ok` meets its contract.
use Rattle.store_shape.proofs.RuleLaws.{zero_tells, below_tells}
use Rattle.store_shape.proofs.ShapeLaws.{tells_ends}
use borrow.Author.Rules.{rules}
use Rattle.store_shape.proofs.ends_ok.Goals as goal

pub returns : goal.returns
returns c =
    let n = c.args.n in
    let e = c.args.e.now in
    tells_ends n e
    (below_tells e.left n e.count (search rules) c.each_below.ensures)
    (below_tells e.right n e.count (search rules) c.each_below-2.ensures)
    (zero_tells e.name e.count 256 (search rules) c.requires.1 c.each_is.ensures)
    (zero_tells e.left e.count 256 (search rules) c.requires.1 c.each_is-2.ensures)
    (zero_tells e.right e.count 256 (search rules) c.requires.1 c.each_is-3.ensures)
