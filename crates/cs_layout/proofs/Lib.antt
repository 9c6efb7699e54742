pub mod Complete
pub mod Counted
pub mod Laid
pub mod Limits
pub mod Made
pub mod Sharing
pub mod Tails
pub mod ZakSpaces
