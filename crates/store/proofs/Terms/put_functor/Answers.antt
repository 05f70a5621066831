-- `store::Terms::put_functor` meets its contract.
use native.Mathlib.Omega.{arith}
use Rattle.store.proofs.BelowLaws.{below_wider}
use Rattle.store.proofs.PutNodeLaws.{puts_functor}
use Rattle.store.proofs.Terms.put_functor.Goals as goal

pub put_children-requires : goal.put_children-requires
put_children-requires c =
    (omega (arith, c.requires.room, c.requires.few), below_wider c.args.self.now.count 256 c.args.children.now (omega (arith, c.requires.room)) c.requires.known)

pub returns : goal.returns
returns c = rw c.put_children.ensures (puts_functor c.args.self.now c.args.symbol c.args.children.now c.requires)
