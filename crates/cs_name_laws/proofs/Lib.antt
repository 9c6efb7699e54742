pub mod Given
mod Named
mod NamedCore
mod Touching
