pub mod CutLaws
pub mod TallyLaws
pub mod RestLaws
pub mod LoopLaws
pub mod ReadLaws
pub mod AgainLaws
