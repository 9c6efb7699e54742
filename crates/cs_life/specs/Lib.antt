pub mod Leaving
pub mod Standing
pub mod inner
