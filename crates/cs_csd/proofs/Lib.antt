pub mod PartLines
pub mod Readings
