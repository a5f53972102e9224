pub mod MediaLine
