-- Laws of the cells of a bounded list.
pub mod CellLaws
