pub mod Said
pub mod Fits
pub mod Sound
pub mod Same
