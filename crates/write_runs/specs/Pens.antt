-- A pen: the lines of a proof in a lent buffer, so many of them.
--   Takes        the buffer takes k lines more
--   Continues   q is p with some lines more, or none: the same buffer and nodes, and the bytes past the lines are as they were
--   NextLine    q is p with the line l more, which has number r
use Rattle.std.specs.Prelude.{◌≡◌, ℕ, ◌+◌, ◌≤◌}
use Rattle.graph.specs.Limits.{line_limit}
use Rattle.graph.specs.Lines.{Line}
use Rattle.proof_lines.specs.Codec.{Put}
use Rattle.proof_lines.specs.Proof.{Kept}
use Rattle.write_runs.specs.declared.Pen.{Pen}

abbrev pub Takes : Pen → ℕ → Type 0
Takes p k = p.lines + k ≤ line_limit

pub record Continues (p q : Pen) : Type 0 where
  pub same_reference : q.buf.ghost_name ≡ p.buf.ghost_name
  pub nodes : q.nodes ≡ p.nodes
  pub low : p.lines ≤ q.lines
  pub kept : Kept q.lines p.buf.now q.buf.now

pub record NextLine (p : Pen) (l : Line) (q : Pen) (r : ℕ) : Type 0 where
  pub same_reference : q.buf.ghost_name ≡ p.buf.ghost_name
  pub nodes : q.nodes ≡ p.nodes
  pub to : q.to ≡ p.to
  pub number : r ≡ p.lines
  pub count : q.lines ≡ p.lines + 1
  pub line : Put p.buf.now p.lines l q.buf.now
