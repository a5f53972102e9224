pub mod Fills
pub mod Earlier
