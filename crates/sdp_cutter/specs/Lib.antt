pub mod Cutter
