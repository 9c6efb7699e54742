-- Definitions that only private clauses cite.
pub mod Sounding
pub mod Faulted
