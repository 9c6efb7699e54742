pub mod Sole
pub mod Turns
pub mod Laying
pub mod Ending
pub mod Opening
pub mod Reached
pub mod Making
mod Copied
pub mod Cycling
pub mod Plainly
