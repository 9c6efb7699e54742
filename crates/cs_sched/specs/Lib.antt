pub mod Times
pub mod Waiting
pub mod inner
