pub mod Orders
pub mod Reading
pub mod Usage
pub mod Ranges
pub mod Command
pub mod Taken
pub mod Worked
