pub mod UnfitLaws
