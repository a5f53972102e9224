pub mod Whence
