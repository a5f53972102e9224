pub mod Utf8Laws
pub mod Utf8Text
pub mod BreakLaws
pub mod TokenLaws
