pub mod Field
pub mod Blame
