pub mod Apart
pub mod Different
pub mod EachOpcode
pub mod Fields
pub mod Places
