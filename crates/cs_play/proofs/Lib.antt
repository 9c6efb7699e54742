pub mod Deciding
pub mod Meanings
pub mod NoPiece
pub mod Paged
pub mod Runs
pub mod Sounds
pub mod TwoRuns
