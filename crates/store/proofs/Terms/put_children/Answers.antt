-- `store::Terms::put_children` meets its contract.
use mathlib.Core.Path.{ap, ◌∙◌}
use Prim.Native.Nat.{◌+◌, ◌*◌}
use lib.ListN.{get_or, set}
use Rattle.std.proofs.lemmas.List.Edits.{paste_more}
use native.Mathlib.Omega.{arith}
use borrow.Author.Rules.{rules}
use Rattle.store.specs.Views.{terms}
use Rattle.store.specs.declared.Terms.{Terms}
use Rattle.store.proofs.BelowLaws.{below_each}
use Rattle.store.proofs.Terms.put_children.Goals as goal

pub overflow_cast-self : goal.overflow_cast-self
overflow_cast-self c = omega (arith, below_each 256 c.args.children.now c.requires.1 c.loop-j.j (search rules))

pub loop-j-preserved : goal.loop-j-preserved
loop-j-preserved c =
    let t = c.args.self.now in
    let cs = c.args.children.now in
    let at = 4 * t.count in
    let j = c.loop-j.j in
    ap (λ (r : Terms). terms r.count r.kind r.symbol r.arity (set r.child (at + j) (get_or cs j 0))) c.loop-j.invariant
    ∙ ap (terms t.count t.kind t.symbol t.arity) (paste_more t.child at cs j 0 (search rules) (search rules))
