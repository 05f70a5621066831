-- `store_shape::places_ok` meets its contract.
use Rattle.std.proofs.Common.{rules, refl, ℕ}
use borrow.Author.Tests.{tests}
use Rattle.std.proofs.lemmas.Iterator.{YieldsList-from_range, cases_from_all}
use Rattle.store.specs.Views.{arity_at, child_at}
use Rattle.store_shape.specs.Rules.{ChildRule}
use Rattle.store_shape.proofs.RangeLaws.{all_tells}
use Rattle.store_shape.proofs.places_ok.Goals as goal

pub returns : goal.returns
returns c =
    let t = c.args.t.now in
    let u = c.args.u in
    all_tells (λ (j : ℕ). ChildRule (arity_at t u) u (child_at t u j) j) 4 _
    (cases_from_all _ _ _ (λ (j : ℕ). ChildRule (arity_at t u) u (child_at t u j) j) (λ (j : ℕ). ChildRule (arity_at t u) u (child_at t u j) j → ⊥)
    c.all.ensures.ran (YieldsList-from_range 0 4 4 refl refl) (λ x q k. search (rules, tests)) (λ x q k. search (rules, tests)))
