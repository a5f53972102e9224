pub mod ReadLaws
pub mod EveryLaws
pub mod SignedLaws
