pub mod CellLaws
pub mod PutLaws
pub mod StampLaws
