pub mod Hours
pub mod Listing
pub mod Starts
pub mod Rises
pub mod Sampled
