pub mod Counted
pub mod Resting
pub mod Tables
