pub mod Step
pub mod Hold
