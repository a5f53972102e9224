pub mod WordLaws
pub mod SegmentLaws
pub mod WidthLaws
pub mod GrownLaws
pub mod HeadLaws
pub mod LatestLaws
