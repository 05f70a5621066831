-- `solve_reach::search_back` meets its contract.
use mathlib.Core.Path.{sym, ◌∙◌}
use Rattle.byte_option.proofs.TableLaws.{got}
use Rattle.std.proofs.Common.{rules, ◌<◌, length, eq-eqb}
use Rattle.solve_reach.proofs.SearchLaws.{peel_took, never_back}
use Rattle.solve_reach.proofs.search_back.Goals as goal
use Rattle.solve_reach.proofs.search_back.Goals.{then-not-is_functor-via-then-not-is_functor, then-not-is_functor-via-else-not-is_functor+then-is_some}

pub returns-then-not-is_functor : goal.returns-then-not-is_functor
returns-then-not-is_functor c =
    elim c.then-not-is_functor.branch [
      | then-not-is_functor-via-then-not-is_functor w ↦ λ s N E U b. cc (c.is_functor.ensures, eq-eqb _ _ U.kind, w.if-not-is_functor.true)
      | then-not-is_functor-via-else-not-is_functor+then-is_some w ↦
          let h = c.args.heights.now.height in
          let b : c.from-c.result < length h = search rules in
          peel_took _ _ _ c.requires.table c.requires.formed _ c.requires.peeled _ c.from-c.ensures
          (rw (got h b w.index-heights-c.is w.get.ensures) (sym w.is_some.ensures ∙ w.if-is_some.true))
    ]

pub returns-else-is_some-2 : goal.returns-else-is_some-2
returns-else-is_some-2 c =
    never_back _ _ _ c.requires.table c.requires.formed _ c.requires.known c.reach-search.ensures _ c.from-c.ensures (sym c.is_some-2.ensures ∙ c.if-is_some-2.false)
