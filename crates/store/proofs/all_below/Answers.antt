-- `store::all_below` meets its contract.
use Rattle.std.proofs.Common.{rules, refl, ℕ}
use borrow.Author.Tests.{tests}
use lib.Dec.{ltb}
use mathlib.Core.Bool.{◌&&◌}
use mathlib.Core.Path.{◌∙◌}
use Rattle.std.specs.List.{list_all}
use Rattle.std.proofs.lemmas.Iterator.{YieldsList-from_slice}
use Rattle.std.proofs.lemmas.Iterator.Search.{all_from_yields_List}
use Rattle.std.proofs.lemmas.List.Recursion.{same_from_clauses}
use Rattle.graph.specs.Book.{all_below}
use Rattle.store.proofs.all_below.Goals as goal

pub returns : goal.returns
returns c =
    let n : ℕ = c.args.n in
    all_from_yields_List (λ x. ltb x n) _ _ _ c.all.ensures.ran (YieldsList-from_slice c.args.children.now cc) (λ x b q k. search (rules, tests))
    ∙ same_from_clauses (list_all (λ x. ltb x n)) (all_below n) (λ x b. ltb x n && b) refl (λ x xs. refl) (λ x xs. refl) c.args.children.now
