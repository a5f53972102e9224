pub mod Samples
pub mod Places
pub mod Bytes
pub mod Counts
pub mod Stamps
