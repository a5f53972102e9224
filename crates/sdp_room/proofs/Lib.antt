pub mod SumLaws
pub mod LengthLaws
pub mod CostLaws
pub mod RoomLaws
pub mod TableLaws
