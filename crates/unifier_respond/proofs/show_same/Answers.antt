-- `unifier_respond::show_same` meets its contract.
use Rattle.write_same.proofs.ShapeLaws.{shape_range, shape_steps}
use Rattle.unifier_respond.proofs.ShowLaws.{shown_same}
use Rattle.unifier_respond.proofs.show_same.Goals as goal

pub invariant_of-grounds-clause-few_entries : goal.invariant_of-grounds-clause-few_entries
invariant_of-grounds-clause-few_entries c = shape_steps _ _ c.requires.shape c.requires.one_class.traced

pub invariant_of-grounds-clause-in_range : goal.invariant_of-grounds-clause-in_range
invariant_of-grounds-clause-in_range c = shape_range _ _ c.requires.shape c.requires.one_class.traced

pub returns : goal.returns
returns c =
    shown_same _ _ c.requires.shape _ _ c.requires.u_lt_count.0 c.requires.u_lt_count.1 c.requires.one_class c.explain_same.ensures
