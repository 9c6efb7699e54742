-- Definitions that only private clauses use.
pub mod Tallies
pub mod Walks
