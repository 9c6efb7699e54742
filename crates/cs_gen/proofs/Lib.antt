pub mod HarmonicSums
pub mod Normals
pub mod Places
pub mod Quarter
pub mod Quotients
pub mod Walks
