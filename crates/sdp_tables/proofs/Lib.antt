pub mod RowLaws
pub mod OwnerLaws
