pub mod NumberLaws
pub mod ValueLaws
pub mod FieldLaws
pub mod RecordLaws
pub mod StepLaws
