-- `store_shape::each_below` meets its contract.
use Rattle.std.proofs.Common.{rules}
use borrow.Author.Tests.{tests}
use lib.Dec.{ltb}
use mathlib.Core.Bool.{◌&&◌, true}
use mathlib.Core.Path.{◌∙◌}
use Rattle.std.proofs.lemmas.Iterator.{YieldsList-from_slice}
use Rattle.std.proofs.lemmas.Iterator.Consumers.{fold_from_yields_List}
use Rattle.store_shape.proofs.RuleLaws.{fold_each}
use Rattle.store_shape.proofs.each_below.Goals as goal

pub returns : goal.returns
returns c =
    fold_from_yields_List _ (λ ok x. ok && ltb x c.args.m) true _ c.fold.ensures.ran (YieldsList-from_slice c.args.s.now cc) (λ ok x b q k. search (rules, tests))
    ∙ fold_each (λ x. ltb x c.args.m) c.args.s.now
