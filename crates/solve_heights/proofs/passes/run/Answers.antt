-- `solve_heights::passes::run` meets its contract: the visitor that comes back is the one that was lent.
use Rattle.std.proofs.Common.{rules, ◌≡◌, ℕ}
use Rattle.solve_heights.proofs.PairingLaws.{pairing_unique}
use Rattle.solve_heights.proofs.passes.run.Goals as goal

pub returns-clause-between : goal.returns-clause-between
returns-clause-between g c = let n = (pairing_unique _ _ _ _ c.run.ensures.fixed).0 in search rules

pub returns-clause-fixed : goal.returns-clause-fixed
returns-clause-fixed g c =
    let n = (pairing_unique _ _ _ _ c.run.ensures.fixed).0 in
    let f = (pairing_unique _ _ _ _ c.run.ensures.fixed).1 in
    search rules

pub returns-clause-closed : goal.returns-clause-closed
returns-clause-closed g c = let n = (pairing_unique _ _ _ _ c.run.ensures.fixed).0 in search rules
