pub mod Loads
pub mod Meanings
pub mod Meant
pub mod Moves
pub mod Pairs
pub mod Readings
pub mod SmallFaults
pub mod SmallSounds
