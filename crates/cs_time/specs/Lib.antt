pub mod Time
pub mod inner
