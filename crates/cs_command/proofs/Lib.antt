pub mod Getters
pub mod Takes
