pub mod Roles
pub mod Kinds
