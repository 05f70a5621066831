-- `unifier_respond::show_cycle` meets its contract.
use mathlib.Core.Path.{refl}
use native.Mathlib.Omega.{arith}
use Rattle.write_same.proofs.ShapeLaws.{shape_range, shape_steps}
use Rattle.unifier_respond.proofs.ShowLaws.{closure_table, shown_cycle, circle_there, circle_leads}
use Rattle.unifier_respond.proofs.show_cycle.Goals as goal

pub find_cycle-requires-clause-table : goal.find_cycle-requires-clause-table
find_cycle-requires-clause-table c = closure_table _ _ c.requires.shape c.requires.traced_closure

pub unwrap-circle-requires : goal.unwrap-circle-requires
unwrap-circle-requires c =
    circle_there _ _ refl c.requires.traced_closure.exact _ c.find_cycle.ensures c.requires.cycle

pub invariant_of-grounds-clause-few_entries : goal.invariant_of-grounds-clause-few_entries
invariant_of-grounds-clause-few_entries c = shape_steps _ _ c.requires.shape c.requires.traced_closure.traced

pub invariant_of-grounds-clause-in_range : goal.invariant_of-grounds-clause-in_range
invariant_of-grounds-clause-in_range c = shape_range _ _ c.requires.shape c.requires.traced_closure.traced

pub explain_cycle-requires-clause-u_bound : goal.explain_cycle-requires-clause-u_bound
explain_cycle-requires-clause-u_bound c =
    let L = circle_leads c.unwrap-circle.ensures c.find_cycle.ensures in
    omega (arith, L.known, c.requires.shape.terms.few)

pub explain_cycle-requires-clause-ways : goal.explain_cycle-requires-clause-ways
explain_cycle-requires-clause-ways c =
    let L = circle_leads c.unwrap-circle.ensures c.find_cycle.ensures in
    (L.reached.ways, L.back)

pub explain_cycle-requires-clause-table : goal.explain_cycle-requires-clause-table
explain_cycle-requires-clause-table c = closure_table _ _ c.requires.shape c.requires.traced_closure

pub returns : goal.returns
returns c =
    let T = c.requires.traced_closure in
    let L = circle_leads c.unwrap-circle.ensures c.find_cycle.ensures in
    shown_cycle _ _ c.requires.shape T _ L.known L.reached c.explain_cycle.ensures
