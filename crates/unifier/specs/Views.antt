-- A workspace read as a state, and which values are workspaces.
--   state_of     the two lists that a workspace holds: what document 01's book is held against
--   packed       the workspace that holds a state: its two lists in order, zero in unused places
--   Valid        document 01's "is a workspace": well-shaped, and the held equations have a solution
use Rattle.graph.specs.State.{State}
use Rattle.graph.specs.Solution.{Solution}
use Rattle.store.specs.Views as store
use Rattle.store.specs.Shape.{Shape}
use Rattle.store.specs.declared.Terms.{Terms}
use Rattle.store.specs.declared.Equations.{Equations}
use Rattle.unifier.specs.declared.Workspace.{Workspace}

abbrev pub workspace_of : Terms → Equations → Workspace
workspace_of t e = record { terms = t; equations = e }

abbrev pub fresh_workspace : Workspace
fresh_workspace = workspace_of store.fresh_terms store.fresh_equations

abbrev pub state_of : Workspace → State
state_of w = store.state_from w.terms w.equations

abbrev pub packed : State → Workspace
packed s = workspace_of (store.pack_terms s.nodes) (store.pack_equations s.equations)

pub record Valid (w : Workspace) : Type 0 where
  pub shape : Shape w.terms w.equations
  pub solution : Solution (state_of w)
