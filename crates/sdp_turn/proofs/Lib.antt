pub mod PartLaws
pub mod TurnLaws
