pub mod ListLaws
pub mod ZoneLaws
pub mod RepeatLaws
