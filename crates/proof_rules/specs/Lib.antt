-- The rules that read nodes and equations.
pub mod Rules
