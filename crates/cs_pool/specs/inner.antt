pub mod Exchange
pub mod Lines
pub mod Parts
pub mod Telling
