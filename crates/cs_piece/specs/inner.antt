-- Definitions that only private clauses cite.
pub mod Data
pub mod Marked
