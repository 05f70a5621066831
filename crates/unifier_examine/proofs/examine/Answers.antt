-- `unifier_examine::examine` meets its contract.
use Rattle.std.proofs.Common.{rules}
use Rattle.solve_closure.proofs.SettledLaws.{holds_state}
use Rattle.unifier_examine.proofs.ExamineLaws.{solved, unsolved}
use Rattle.unifier_examine.proofs.examine.Goals as goal

pub returns-in-Solved : goal.returns-in-Solved
returns-in-Solved c =
    solved _ _ (c.decide-o.ensures _ (holds_state _ _)) (search rules) c.in-Solved.is

pub returns-in-Clash : goal.returns-in-Clash
returns-in-Clash c =
    unsolved _ _ (c.decide-o.ensures _ (holds_state _ _)) c.in-Clash.is
