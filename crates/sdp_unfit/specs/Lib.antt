pub mod Unfit
pub mod Number
