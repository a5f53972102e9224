pub mod OneLaws
pub mod Answers
pub mod TakeLine
pub mod Forms
pub mod Rules
