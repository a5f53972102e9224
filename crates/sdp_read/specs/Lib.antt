pub mod Run
pub mod From
