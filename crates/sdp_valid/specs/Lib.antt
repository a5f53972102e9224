pub mod Judge
pub mod Counted
pub mod Plain
