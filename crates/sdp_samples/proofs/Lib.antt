pub mod SampleLaws
pub mod PlaceLaws
pub mod ByteLaws
pub mod CountLaws
pub mod StampLaws
