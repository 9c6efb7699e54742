pub mod Buffered
pub mod Causes
pub mod Chains
pub mod Lines
pub mod Lists
pub mod Places
pub mod Stories
