-- Definitions that only private clauses cite.
pub mod Level
pub mod Pieces
pub mod Ramp
pub mod Ring
pub mod Short
