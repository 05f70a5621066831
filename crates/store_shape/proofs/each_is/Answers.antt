-- `store_shape::each_is` meets its contract.
use Rattle.std.proofs.Common.{rules}
use borrow.Author.Tests.{tests}
use mathlib.Core.Bool.{◌&&◌, true}
use mathlib.Core.Path.{◌∙◌}
use Rattle.std.proofs.lemmas.Iterator.{YieldsList-from_slice}
use Rattle.std.proofs.lemmas.Iterator.Consumers.{fold_from_yields_List}
use Rattle.store_shape.proofs.RuleLaws.{fold_each}
use Rattle.store_shape.proofs.each_is.Goals as goal

pub returns : goal.returns
returns g c =
    fold_from_yields_List _ (λ ok x. ok && g.T.PartialEq.eq x c.args.z) true _ c.fold.ensures.ran (YieldsList-from_slice c.args.s.now cc) (λ ok x b q k. search (rules, tests))
    ∙ fold_each (λ x. g.T.PartialEq.eq x c.args.z) c.args.s.now
