-- `solve_trace::join_equations` meets its contract: what its closure gives for k is equation k.
use Rattle.std.proofs.Common.{rules, ◌≡◌, ◌<◌, ℕ, length, get_or, arith, length-take, get_or-take, take}
use Rattle.store.specs.Views.{lent_ends}
use Rattle.solve_trace.specs.declared.Entry.TheVariants.{Equation}
use Rattle.solve_trace.specs.Nodes.{EquationEnds}
use Rattle.solve_trace.proofs.StepLaws.{pairs_only}
use Rattle.solve_trace.proofs.ReasonLaws.{by_equation_lem}
use Rattle.solve_trace.proofs.join_equations.Goals as goal

pub join_pairs-requires-clause-callable : goal.join_pairs-requires-clause-callable
join_pairs-requires-clause-callable c = λ k h.
    let e = lent_ends c.args.e.now in
    let b : k < 65536 = omega (arith, h, length-take e.count e.left, c.requires.few) in
    search rules

pub returns : goal.returns
returns c =
    let e = lent_ends c.args.e.now in
    let l : length (take e.count e.left) ≡ e.count = search (rules, length-take) in
    pairs_only _ (EquationEnds e) (λ (j : ℕ). get_or e.left j 0) (λ (j : ℕ). get_or e.right j 0) (take e.count e.left) (take e.count e.right) e.count l (λ s E k n r h p grows. let is : n ≡ Equation k = search rules in let b : k < e.count = omega (arith, h, l) in rw (is, get_or-take e.count e.left k 0 b, get_or-take e.count e.right k 0 b) (by_equation_lem e r s k b E)) (λ j h. (get_or-take e.count e.left j 0 h, get_or-take e.count e.right j 0 h)) c.join_pairs.ensures
