pub mod Fill
pub mod Returned
