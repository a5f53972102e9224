pub mod MediaLaws
pub mod CountLaws
pub mod CountSamples
