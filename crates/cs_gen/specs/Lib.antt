pub mod Faults
pub mod Places
pub mod Points
pub mod Tables
pub mod inner
