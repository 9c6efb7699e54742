-- Definitions that only private clauses cite.
pub mod Walk
pub mod Harmonics
