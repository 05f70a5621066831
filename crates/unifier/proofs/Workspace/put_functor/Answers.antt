-- `Workspace::put_functor` meets its contract.
use Rattle.std.proofs.Common.{arith, sym, ◌∙◌}
use Rattle.graph.specs.State.{functor}
use Rattle.unifier.proofs.Laws.{examined_well, solved_valid, refused_full, refused_many, refused_unknown, refused_arity, declared, functor_early}
use Rattle.unifier.proofs.Workspace.put_functor.Goals as goal

pub returns-then-n-ge-NODES : goal.returns-then-n-ge-NODES
returns-then-n-ge-NODES c =
    let s = examined_well _ _ _ _ c.in_ok-examined.was c.examined.ensures in
    refused_full c.args.self.now (functor c.args.symbol c.args.children.now) (solved_valid _ _ _ s) (omega (arith, c.if-n-ge-NODES.true))

pub returns-then-children-gt-CHILDREN : goal.returns-then-children-gt-CHILDREN
returns-then-children-gt-CHILDREN c =
    let s = examined_well _ _ _ _ c.in_ok-examined.was c.examined.ensures in
    refused_many c.args.self.now c.args.symbol c.args.children.now (omega (arith, c.if-n-ge-NODES.false)) (solved_valid _ _ _ s) (omega (arith, c.if-children-gt-CHILDREN.true))

pub returns-then-not-all_below : goal.returns-then-not-all_below
returns-then-not-all_below c =
    let s = examined_well _ _ _ _ c.in_ok-examined.was c.examined.ensures in
    refused_unknown c.args.self.now c.args.symbol c.args.children.now c.if-n-ge-NODES.false (solved_valid _ _ _ s) c.if-children-gt-CHILDREN.false
    (sym c.all_below.ensures ∙ c.if-not-all_below.true)

pub returns-then-not-arity_fits : goal.returns-then-not-arity_fits
returns-then-not-arity_fits c =
    let s = examined_well _ _ _ _ c.in_ok-examined.was c.examined.ensures in
    refused_arity c.args.self.now c.args.symbol c.args.children.now c.if-n-ge-NODES.false c.if-children-gt-CHILDREN.false (sym c.all_below.ensures ∙ c.if-not-all_below.false)
    (solved_valid _ _ _ s) (sym c.arity_fits.ensures ∙ c.if-not-arity_fits.true)

pub put_functor-requires : goal.put_functor-requires
put_functor-requires c = record {
  room = omega (arith, c.if-n-ge-NODES.false);
  few = omega (arith, c.if-children-gt-CHILDREN.false);
  known = sym c.all_below.ensures ∙ c.if-not-all_below.false;
  fits = sym c.arity_fits.ensures ∙ c.if-not-arity_fits.false;
}

pub returns : goal.returns
returns c =
    let w = c.args.self.now in
    let v = solved_valid w _ _ (examined_well _ _ _ _ c.in_ok-examined.was c.examined.ensures) in
    let p = c.put_functor.ensures in
    declared w (functor c.args.symbol c.args.children.now) v _ (p.nodes v.shape.terms) p.count (p.shape v.shape.terms)
    (functor_early w c.args.symbol c.args.children.now c.if-n-ge-NODES.false c.if-children-gt-CHILDREN.false (sym c.all_below.ensures ∙ c.if-not-all_below.false) (sym c.arity_fits.ensures ∙ c.if-not-arity_fits.false))
