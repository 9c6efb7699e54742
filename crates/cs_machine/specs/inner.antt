pub mod Kept
pub mod Numbers
pub mod Channels
pub mod Gathered
pub mod Narrow
