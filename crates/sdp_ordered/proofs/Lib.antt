pub mod LetterLaws
pub mod NextLaws
pub mod MatchLaws
pub mod OrderedLaws
