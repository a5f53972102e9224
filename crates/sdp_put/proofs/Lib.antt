pub mod OutLaws
pub mod PutsLaws
pub mod ByteLaws
pub mod DigitLaws
pub mod StringLaws
