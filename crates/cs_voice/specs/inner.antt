-- Definitions that only private clauses cite.
pub mod Begun
pub mod Coming
pub mod Jumps
pub mod Places
pub mod Rooms
pub mod Starters
pub mod Zak
