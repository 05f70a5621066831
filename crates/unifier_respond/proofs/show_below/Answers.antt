-- `unifier_respond::show_below` meets its contract.
use Rattle.write_same.proofs.ShapeLaws.{shape_range, shape_steps}
use Rattle.unifier_respond.proofs.ShowLaws.{closure_table, shown_below}
use Rattle.unifier_respond.proofs.show_below.Goals as goal

pub invariant_of-grounds-clause-few_entries : goal.invariant_of-grounds-clause-few_entries
invariant_of-grounds-clause-few_entries c = shape_steps _ _ c.requires.shape c.requires.traced_closure.traced

pub invariant_of-grounds-clause-in_range : goal.invariant_of-grounds-clause-in_range
invariant_of-grounds-clause-in_range c = shape_range _ _ c.requires.shape c.requires.traced_closure.traced

pub explain_below-requires-clause-table : goal.explain_below-requires-clause-table
explain_below-requires-clause-table c = closure_table _ _ c.requires.shape c.requires.traced_closure

pub returns : goal.returns
returns c =
    shown_below _ _ c.requires.shape c.requires.traced_closure _ c.requires.u_lt_count.0 c.requires.reached.0 _ c.requires.u_lt_count.1 c.explain_below.ensures
