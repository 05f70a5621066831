-- `store_arity::one_arity` meets its contract: the first u fit one another.
use Rattle.base.proofs.TellLaws.{tells_yes, tells_at}
use Rattle.store_arity.specs.Rule.{ArityRule}
use Rattle.store_arity.proofs.HeadLaws.{rule_none, rule_more, rule_not, heads_none}
use native.Mathlib.Omega.{arith}
use borrow.Author.Rules.{rules}
use Rattle.store_arity.proofs.one_arity.Goals as goal

pub loop-u-init : goal.loop-u-init
loop-u-init c = let t = c.args.t.now in rw c.none-head.ensures (heads_none t, rule_none t)

pub returns-then-not-node_fits : goal.returns-then-not-node_fits
returns-then-not-node_fits c =
    let f = c.node_fits in
    rule_not c.args.t.now _ _ f.result (search rules) c.if-not-node_fits.true f.ensures.fits_before

pub loop-u-preserved : goal.loop-u-preserved
loop-u-preserved c =
    let f = c.node_fits in
    (f.ensures.symbol_heads, rule_more c.args.t.now _ f.result c.loop-u.invariant.1 c.if-not-node_fits.false f.ensures.fits_before)

pub returns : goal.returns
returns c = tells_at (ArityRule c.args.t.now) (tells_yes c.loop-u.invariant.1) (omega arith)
