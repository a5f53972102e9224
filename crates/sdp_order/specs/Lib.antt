pub mod Expression
pub mod Order
pub mod From
