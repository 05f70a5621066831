-- The code's table of rules is `rule_table`, read row by row.
use Rattle.std.proofs.Common.{◌≡◌, refl, ℕ, zero, suc, ◌-◌, ◌<◌, ◌≤◌, get_or, List, map, Bool, ◌&&◌, false, arith}
use Rattle.std.proofs.Math.Bool.{and_assoc}
use Rattle.std.proofs.lemmas.List.{get_or_default}
use lib.ListN.{get_or-map}
use lib.Dec.{eqb}
use Rattle.graph.specs.Lines.{uses, rule_table, uses_of, used_or_zero, tidy}
use Rattle.proof_lines.specs.declared.Row.{Row}
use Rattle.proof_lines.specs.declared.Line.{Line as LineRead}
use Rattle.proof_lines.specs.Reading.{line_seen, uses_in}

-- the row of a rule, in a table that is `rule_table` as a whole
pub row_at : (rows : List Row) (d : Row) (r : ℕ) → map uses_in rows ≡ rule_table → 0 < r → r ≤ 6 → uses_in (get_or rows (r - 1) d) ≡ uses_of r
row_at rows d zero e h k = absurd (omega arith)
row_at rows d (suc i) e h k =
    let j : suc i - 1 ≡ i = omega arith in
    rw (j, ← get_or-map uses_in rows i d, e) (get_or_default rule_table i (uses_in d) (uses false false false) (omega arith))

-- a number that is no rule uses no field
pub no_row : (r : ℕ) → (0 < r → r ≤ 6 → ⊥) → uses false false false ≡ uses_of r
no_row zero h = refl
no_row (suc zero) h = absurd (h (omega arith) (omega arith))
no_row (suc (suc zero)) h = absurd (h (omega arith) (omega arith))
no_row (suc (suc (suc zero))) h = absurd (h (omega arith) (omega arith))
no_row (suc (suc (suc (suc zero)))) h = absurd (h (omega arith) (omega arith))
no_row (suc (suc (suc (suc (suc zero))))) h = absurd (h (omega arith) (omega arith))
no_row (suc (suc (suc (suc (suc (suc zero)))))) h = absurd (h (omega arith) (omega arith))
no_row (suc (suc (suc (suc (suc (suc (suc r))))))) h = refl

-- the tests of a line against its row
pub by_row : (l : LineRead) (w : Row) (a b c : Bool) → uses_in w ≡ uses_of l.fields.rule → a ≡ used_or_zero w.first l.fields.first
    → b ≡ used_or_zero w.second l.fields.second → c ≡ used_or_zero w.place l.fields.place → (((a && b) && c) && eqb l.reserved 0) ≡ tidy (line_seen l)
unfolding tidy
by_row l w a b c right x y z = rw (x, y, z, ← right) (simp and_assoc)
