-- `solve_trace::join_children` meets its contract: what its closure gives for k is the k-th place of the two nodes.
use Rattle.std.proofs.Common.{rules, ◌≡◌, ◌<◌, ℕ, length, get_or, arith}
use Rattle.base.proofs.TabLaws.{tab_length, tab_get_d}
use Rattle.store.specs.Views.{lent_terms, arity_at, child_at}
use Rattle.solve_trace.specs.declared.Entry.TheVariants.{Children}
use Rattle.solve_trace.specs.Steps.{Places}
use Rattle.solve_trace.proofs.StepLaws.{pairs_only}
use Rattle.solve_trace.proofs.join_children.Goals as goal

pub join_pairs-requires-clause-callable : goal.join_pairs-requires-clause-callable
join_pairs-requires-clause-callable c = λ k h.
    let l : length c.first_children.result.now ≡ arity_at (lent_terms c.args.t.now) c.args.u = search (rules, tab_length) in
    let b : k < 256 = omega (arith, h, l, c.requires.u_bound.2) in
    search rules

pub returns : goal.returns
returns c =
    let g = lent_terms c.args.t.now in
    let u = c.args.u in
    let v = c.args.v in
    let m = c.requires.u_bound in
    let xs = c.first_children.result.now in
    let ys = c.first_children-2.result.now in
    let l : length xs ≡ arity_at g u = search (rules, tab_length) in
    let x = λ (j : ℕ) (h : j < arity_at g u). let q : get_or xs j 0 ≡ child_at g u j = search (rules, tab_get_d) in q in
    let y = λ (j : ℕ) (h : j < arity_at g u). let q : get_or ys j 0 ≡ child_at g v j = search (rules, tab_get_d) in q in
    pairs_only _ (Places g u v) (child_at g u) (child_at g v) xs ys (arity_at g u) l
    (λ s E k n r h p grows. let is : n ≡ Children u v k = search rules in let b : k < arity_at g u = omega (arith, h, l) in rw (is, x k b, y k b) (E r k (grows u v m.0 m.1 m.3) b))
    (λ j h. (x j h, y j h)) c.join_pairs.ensures
