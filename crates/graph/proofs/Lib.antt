-- Laws and theorems.
--   ClosureLaws       the closure is least, grows with the state, joins known nodes
--   SolutionLaws      what a solution rules out and serves; the verdict is one
--   LookupLaws        what the lookups of the checker's definition say
--   SoundLaws         the checker's definition is sound
--   CitesLaws         it cites only what is held
--   AppendLaws        the claims of a list with more lines at its end
--   BookLaws          the book's reply to a call and to a list of calls is one
--   HeldLaws          the held equations with one more or one struck; names all different
--   AcceptLaws        what a call that isn't refused has shown
--   ProperLaws        the book's calls keep a state proper
--   LimitLaws         they keep document 01's limits
--   ArityLaws         they keep one number of children for each symbol
--   SolutionKeptLaws  they keep a solution
--   SolutionTest      tests that compute: classes, solution, proper state
--   Examples          the worked examples: one fact
pub mod ClosureLaws
pub mod SolutionLaws
pub mod LookupLaws
pub mod SoundLaws
pub mod CitesLaws
pub mod AppendLaws
pub mod BookLaws
pub mod HeldLaws
pub mod AcceptLaws
pub mod ProperLaws
pub mod LimitLaws
pub mod ArityLaws
pub mod SolutionKeptLaws
pub mod SolutionTest
pub mod Examples
