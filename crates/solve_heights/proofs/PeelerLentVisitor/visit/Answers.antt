-- `solve_heights::PeelerLentVisitor::visit` meets its contract.
use mathlib.Core.Path.{refl, ap}
use Rattle.std.proofs.Common.{ℕ, get_or}
use native.Mathlib.Omega.{arith}
use Rattle.solve_heights.proofs.ReleaseLaws.{small, some_wait, fewer, release_more, release_last}
use Rattle.solve_heights.proofs.PeelerLentVisitor.visit.Goals as goal

pub overflow_sub-self : goal.overflow_sub-self
overflow_sub-self c =
    let q = c.requires in
    omega (
      arith,
      some_wait _ _ _ _ q.known q.between c.if-not-self-u.false (c.stuck.ensures.fails c.if-stuck.false),
      ap (λ (z : ℕ). get_or c.args.self.now.waiting z 0) c.from-c.ensures,
    )

pub overflow_add-self : goal.overflow_add-self
overflow_add-self c =
    let q = c.requires in
    record { fits = omega (arith, small _ _ _ _ q.known q.between) }

pub some-requires : goal.some-requires
some-requires c =
    let q = c.requires in
    omega (arith, small _ _ _ _ q.known q.between)

pub returns-then-self-c-eq0-clause-between : goal.returns-then-self-c-eq0-clause-between
returns-then-self-c-eq0-clause-between c =
    let q = c.requires in
    rw c.some.ensures (release_last _ _ _ _ q.known q.between c.if-not-self-u.false (c.stuck.ensures.fails c.if-stuck.false) _ _ c.from-c.ensures refl c.if-self-c-eq0.true)

pub returns-else-self-c-eq0-clause-between : goal.returns-else-self-c-eq0-clause-between
returns-else-self-c-eq0-clause-between c =
    let q = c.requires in
    release_more _ _ _ _ q.known q.between c.if-not-self-u.false (c.stuck.ensures.fails c.if-stuck.false) _ _ c.from-c.ensures refl c.if-self-c-eq0.false

pub returns-else-self-c-eq0-clause-kept : goal.returns-else-self-c-eq0-clause-kept
returns-else-self-c-eq0-clause-kept c =
    let q = c.requires in
    λ e v s b. s (fewer _ _ _ _ q.known q.between c.if-not-self-u.false (c.stuck.ensures.fails c.if-stuck.false) v b)
