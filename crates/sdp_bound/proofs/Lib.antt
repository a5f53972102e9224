pub mod NumberLaws
pub mod RowLaws
pub mod FieldLaws
pub mod RecordLaws
pub mod StepLaws
pub mod BoundLaws
pub mod BoundSamples
pub mod RoomLaws
