pub mod Insert
pub mod Between
