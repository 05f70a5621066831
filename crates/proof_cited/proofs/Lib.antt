-- Laws of the marking and of the list of names.
--   OneLaws    how many entries are 1
--   MarkLaws   what marking the cited lines and noting a name store
--   BackLaws   the marking loop, from the last line back
--   ListLaws   the names, rising
--   RisingLaws  the list is one, and its names are held or offered where the lines pass
pub mod OneLaws
pub mod MarkLaws
pub mod BackLaws
pub mod ListLaws
pub mod RisingLaws
