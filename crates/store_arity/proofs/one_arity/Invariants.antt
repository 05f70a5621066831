-- `store_arity::one_arity` meets its contract: the first u fit one another.
use Rattle.store_arity.specs.Rule.{ArityRule}
use Rattle.store_arity.specs.SymbolHeads.{SymbolHeads}
use Rattle.store_arity.proofs.one_arity.Given as goal

abbrev pub invariant-loop-u : goal.invariant-loop-u
invariant-loop-u l = SymbolHeads l.t l.head l.u × ArityRule l.t l.u
