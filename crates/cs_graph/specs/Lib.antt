pub mod Conflict
pub mod Cover
pub mod Examples
pub mod Graph
pub mod inner
