pub mod StopLaws
pub mod LineLaws
pub mod CutLaws
