-- `store_arity::node_fits` meets its contract: by the head that the node meets.
use mathlib.Core.Path.{refl}
use Rattle.store_arity.proofs.HeadLaws.{heads_more, met_place, fits_alone, fits_head, fits_all}
use Rattle.store_arity.proofs.node_fits.Goals as goal

pub bounds-t-w : goal.bounds-t-w
bounds-t-w c = let t = c.args.t.now in met_place t _ c.args.u c.requires.1 c.from.ensures (c.meet.ensures t refl) c.in-Some.is c.from-w.ensures c.requires.0

pub bounds-t-w-then-t-w : goal.bounds-t-w-then-t-w
bounds-t-w-then-t-w c = let t = c.args.t.now in met_place t _ c.args.u c.requires.1 c.from.ensures (c.meet.ensures t refl) c.in-Some.is c.from-w.ensures c.requires.0

pub returns-in_default : goal.returns-in_default
returns-in_default c =
    let M = c.meet.ensures c.args.t.now refl in
    let t = c.args.t.now in
    record {
      symbol_heads = heads_more t _ c.args.u c.requires.1 _ c.from.ensures M;
      fits_before = fits_alone t _ c.args.u c.requires.1 c.from.ensures M c.in_default.is;
    }

pub returns-then-t-w : goal.returns-then-t-w
returns-then-t-w c =
    let M = c.meet.ensures c.args.t.now refl in
    let t = c.args.t.now in
    record {
      symbol_heads = heads_more t _ c.args.u c.requires.1 _ c.from.ensures M;
      fits_before = rw c.from-w.ensures (fits_head t _ c.args.u c.requires.1 c.from.ensures M c.in-Some.v c.in-Some.is (rw c.from-w.ensures at c.if-t-w.true) c.requires.2);
    }

pub returns-else-t-w : goal.returns-else-t-w
returns-else-t-w c =
    let M = c.meet.ensures c.args.t.now refl in
    let t = c.args.t.now in
    record {
      symbol_heads = heads_more t _ c.args.u c.requires.1 _ c.from.ensures M;
      fits_before = fits_all t _ c.args.u c.requires.1 c.from.ensures M c.in-Some.v c.in-Some.is c.arity_fits.ensures;
    }
