pub mod ScanLaws
pub mod WordLaws
pub mod TokenLaws
