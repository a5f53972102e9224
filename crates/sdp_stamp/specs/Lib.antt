pub mod Stamp
pub mod Put
