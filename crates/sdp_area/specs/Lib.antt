pub mod Session
pub mod With
pub mod Area
pub mod Columns
pub mod Held
pub mod Latest
pub mod Which
