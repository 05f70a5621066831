-- `eqtrace_console::answer_all` meets its contract.
use Rattle.std.proofs.Common.{arith}
use Rattle.std.proofs.Math.Nat.{sub-zero}
use Rattle.eqtrace_session.proofs.StepLaws.{seen}
use Rattle.eqtrace_console.proofs.WrittenLaws.{so_far_none, so_far_more, ended, answers_written}
use Rattle.eqtrace_console.proofs.answer_all.Goals as goal

pub loop-d-init : goal.loop-d-init
loop-d-init g c = so_far_none _ _ _ _ c.begin-c.ensures

pub returns-then-n-eq0-clause-finished : goal.returns-then-n-eq0-clause-finished
returns-then-n-eq0-clause-finished g c = ended _ _ _ _ _ c.loop-d.invariant _ _ _ _ _ c.step-s.ensures c.if-n-eq0.true _ c.workspace.ensures

pub returns-then-n-eq0-clause-written : goal.returns-then-n-eq0-clause-written
returns-then-n-eq0-clause-written g c = answers_written _ _ _ _ _ c.loop-d.invariant _ _ _ _ _ c.step-s.ensures c.if-n-eq0.true _ c.workspace.ensures

pub loop-d-smaller : goal.loop-d-smaller
loop-d-smaller g c =
    let on = (seen _ _ _ _ _ _ _ c.step-s.ensures).on c.if-n-eq0.false in
    omega (arith, on.0, on.1)

pub loop-d-preserved : goal.loop-d-preserved
loop-d-preserved g c =
    let wrote = c.write_after-written.ensures in
    so_far_more _ _ _ _ _ c.loop-d.invariant _ _ _ _ _ c.step-s.ensures _ _ wrote.before (simp sub-zero at wrote.appends)
