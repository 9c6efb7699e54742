mod Adding
pub mod Cutting
mod Emptying
pub mod Filling
pub mod Fronts
mod InRows
mod Runs
mod Touching
