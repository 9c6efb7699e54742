pub mod Floors
pub mod Ramps
pub mod Times
