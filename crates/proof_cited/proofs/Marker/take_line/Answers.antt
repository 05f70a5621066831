-- `proof_cited::Marker::take_line` meets its contract: by the rule; a number that is no rule is none of 1, 4, 5 and 6.
use Rattle.std.proofs.Common.{sym}
use Rattle.proof_lines.specs.declared.Rule.TheVariants.{Equation, Symmetry, Transitivity, Down}
use Rattle.proof_cited.proofs.MarkLaws.{nothing_cited, nothing_seen}
use Rattle.proof_cited.proofs.Marker.take_line.Goals as goal

pub returns-in-Err : goal.returns-in-Err
returns-in-Err c =
    let no = c.in-Err.ensures in record {
      lines = nothing_cited _ _ _ _ _ (λ e. no Symmetry (sym e)) (λ e. no Transitivity (sym e)) (λ e. no Down (sym e));
      names = nothing_seen _ _ _ (λ e. no Equation (sym e));
      blocks = nothing_seen _ _ _ (λ e. no Equation (sym e));
    }
