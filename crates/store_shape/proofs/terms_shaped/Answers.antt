-- `store_shape::terms_shaped` meets its contract.
use Rattle.store_shape.proofs.RuleLaws.{zero_tells}
use Rattle.store_shape.proofs.ShapeLaws.{tells_terms}
use Prim.Native.Nat.{◌*◌}
use native.Mathlib.Omega.{arith}
use borrow.Author.Rules.{rules}
use Rattle.store_shape.proofs.terms_shaped.Goals as goal

pub returns : goal.returns
returns c =
    let t = c.args.t.now in
    let n = c.if-n-gt-NODES.false in
    tells_terms t (record { kinds = search rules; symbols = search rules; arities = search rules; children = search rules }) n c.nodes_ok-used.ensures
    (zero_tells t.kind t.count 64 (search rules) n c.each_is.ensures)
    (zero_tells t.symbol t.count 64 (search rules) n c.each_is-2.ensures)
    (zero_tells t.arity t.count 64 (search rules) n c.each_is-3.ensures)
    (zero_tells t.child (4 * t.count) 256 (search rules) (omega arith) c.each_is-4.ensures)
    c.one_arity.ensures
