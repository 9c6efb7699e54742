mod Apart
mod Bodies
mod Giving
mod LiveFound
mod Marks
mod Readied
mod Rights
mod Staged
pub mod Ascending
pub mod Joined
pub mod Played
