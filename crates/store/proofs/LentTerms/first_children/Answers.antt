-- `store::LentTerms::first_children` meets its contract.
use Rattle.std.proofs.Common.{rules, ℕ, ◌≡◌, ◌+◌, ◌-◌, ◌*◌, length}
use mathlib.Core.Path.{ap, ◌∙◌}
use native.Mathlib.Omega.{arith}
use borrow.Rule.Slice.PartMut.{mid_of}
use Rattle.base.proofs.TabLaws.{mid_tab}
use Rattle.store.proofs.LentTerms.first_children.Goals as goal

pub returns : goal.returns
returns c =
    let l = c.args.self.now.child.now in
    let u = c.args.u in
    let e : 4 * u + c.args.n - 4 * u ≡ c.args.n = omega arith in
    let s : length l ≡ 256 = search rules in
    ap (λ (k : ℕ). mid_of (4 * u) k l) e ∙ mid_tab (4 * u) c.args.n l (omega (arith, s, c.requires.0, c.requires.1))
