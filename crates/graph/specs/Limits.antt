-- Document 01's limits. Arrays have these lengths too; a table's, a word's or an entry's own 64 is another thing and isn't named here.
--   node_limit       nodes of a workspace
--   child_limit      children of a functor node
--   equation_limit   held equations
--   line_limit       lines of a proof
--   buffer_bytes     bytes of a proof buffer, at least: 8 for each line
use Rattle.std.specs.Prelude.{ℕ}

abbrev pub node_limit : ℕ
node_limit = 64

abbrev pub child_limit : ℕ
child_limit = 4

abbrev pub equation_limit : ℕ
equation_limit = 256

abbrev pub line_limit : ℕ
line_limit = 8192

abbrev pub buffer_bytes : ℕ
buffer_bytes = 65536
