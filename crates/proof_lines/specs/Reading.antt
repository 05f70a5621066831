-- A line as the code hands it on: its four fields and the number in its reserved bytes, its rule, and the row of the rule table.
--   line_of     the line with these fields, its reserved bytes zero
--   line_seen   the line with these fields and this number in its reserved bytes
--   fields_of   the fields of a line
--   read_of     the fields of a line, with the number in its reserved bytes
--   decoded     line k of the bytes, whatever its reserved bytes, if it is whole
--   number_of   a rule's number
--   Ruled       the rule of a number, or that no rule has it
--   uses_in     a row of the code's table, read as a row of `rule_table`
use Rattle.std.specs.Prelude.{◌≡◌, cond, List, ℕ, ◌/◌, length, ltb, Option, Some, None, Result, MatchResult}
use Rattle.graph.specs.Lines.{Line, Uses, uses}
use Rattle.proof_lines.specs.Codec.{line, line_at}
use Rattle.proof_lines.specs.declared.Fields.{Fields}
use Rattle.proof_lines.specs.declared.Line.{Line as LineRead}
use Rattle.proof_lines.specs.declared.Row.{Row}
use Rattle.proof_lines.specs.declared.NoRule.{NoRule}
use Rattle.proof_lines.specs.declared.Rule.{Rule}
use Rattle.proof_lines.specs.declared.Rule.TheVariants.{Equation, Child, Reflexivity, Symmetry, Transitivity, Down}

abbrev pub line_of : Fields → Line
line_of f = line f.rule f.place f.first f.second

abbrev pub line_seen : LineRead → Line
line_seen l = record (line_of l.fields) { reserved = l.reserved }

abbrev pub fields_of : Line → Fields
fields_of l = record { rule = l.rule; place = l.place; first = l.first; second = l.second }

abbrev pub read_of : Line → LineRead
read_of l = record { fields = fields_of l; reserved = l.reserved }

abbrev pub decoded : List ℕ → ℕ → Option LineRead
decoded bs k = cond (ltb k (length bs / 8)) (Some (read_of (line_at bs k))) None

abbrev pub number_of : Rule → ℕ
number_of Equation = 1
number_of Child = 2
number_of Reflexivity = 3
number_of Symmetry = 4
number_of Transitivity = 5
number_of Down = 6

abbrev pub Ruled : ℕ → Result Rule NoRule → Type 0
Ruled x r = MatchResult r (λ rule. number_of rule ≡ x) (λ e. (rule : Rule) → number_of rule ≡ x → ⊥)

abbrev pub uses_in : Row → Uses
uses_in w = uses w.first w.second w.place
