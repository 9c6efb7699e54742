pub mod Examples
pub mod Lowered
pub mod Means
pub mod Names
pub mod inner
