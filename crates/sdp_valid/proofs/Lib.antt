pub mod JudgeLaws
pub mod CountedLaws
pub mod PlainLaws
pub mod FrontLaws
pub mod LentLaws
