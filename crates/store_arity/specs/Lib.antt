-- The rule of one number of children for each symbol, and the heads of symbols.
pub mod Rule
pub mod SymbolHeads
