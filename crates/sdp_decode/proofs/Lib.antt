pub mod CellLaws
pub mod RowLaws
