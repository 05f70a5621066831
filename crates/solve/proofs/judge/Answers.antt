-- `solve::judge` meets its contract.
use Rattle.solve.proofs.DecidedLaws.{decided_clash, decided_solved, decided_cycle}
use Rattle.solve.proofs.judge.Goals as goal
use Rattle.solve.proofs.judge.Goals.{then-heights-eq0, else-heights-eq0}

pub returns-in-Some-clause-decided : goal.returns-in-Some-clause-decided
returns-in-Some-clause-decided c = λ s es N D. decided_clash _ s c.requires.formed N es D _ _ _ c.in-Some.is

pub returns-clause-decided : goal.returns-clause-decided
returns-clause-decided c = λ s es N D.
    elim c.if-heights-eq0.branch [
      | then-heights-eq0 w ↦ rw w.verdict-is (decided_solved _ s c.requires.formed N es D _ c.in_default.is c.peel-heights.ensures w.if-heights-eq0.true)
      | else-heights-eq0 w ↦ rw w.verdict-is (decided_cycle _ s c.requires.formed N es D _ c.in_default.is c.peel-heights.ensures w.if-heights-eq0.false)
    ]
