mod Flags
mod GivenTables
mod Going
mod Marking
mod Opened
mod Tabled
mod Waited
pub mod Beginning
pub mod Begun
pub mod Growing
pub mod Heard
pub mod Joining
pub mod Left
pub mod Ordered
pub mod Orders
pub mod Performing
pub mod Places
pub mod Standings
pub mod Waits
