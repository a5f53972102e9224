pub mod Refusals
pub mod Fields
pub mod Tables
pub mod Numbered
