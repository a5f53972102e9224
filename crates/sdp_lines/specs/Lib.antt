pub mod Lines
pub mod Answers
pub mod Quick
pub mod Strings
