pub mod SplitLaws
pub mod WordLaws
