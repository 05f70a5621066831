-- Lib
-- Orders as bytes.
pub mod Grammar
pub mod Input
pub mod Parse
