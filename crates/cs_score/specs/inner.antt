-- Definitions that only private clauses cite.
pub mod Counts
pub mod Hidden
pub mod Left
pub mod Past
pub mod Runs
pub mod State
pub mod Values
