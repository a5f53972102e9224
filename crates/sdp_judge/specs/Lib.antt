pub mod Read
pub mod Offset
