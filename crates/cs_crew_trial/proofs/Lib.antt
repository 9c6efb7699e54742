pub mod Numbered
pub mod Ascending
