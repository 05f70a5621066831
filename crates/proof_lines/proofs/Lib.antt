-- Laws of the line codec.
--   Bytes      eight stores make a line
--   Decoding   what a decoded line says of the bytes
--   RowLaws    the table of rules, read row by row
--   Inverse    decoding and encoding are inverse
pub mod Bytes
pub mod Decoding
pub mod RowLaws
pub mod Inverse
