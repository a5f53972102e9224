pub mod NumberLaws
pub mod LineLaws
pub mod TableLaws
pub mod OwnerLaws
pub mod WholeLaws
