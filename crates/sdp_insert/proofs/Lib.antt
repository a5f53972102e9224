pub mod SplitLaws
pub mod RunLaws
pub mod RiseLaws
pub mod InsertLaws
pub mod BetweenLaws
pub mod InsertSamples
