pub mod Clashes
pub mod Levels
pub mod Stocks
