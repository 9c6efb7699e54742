-- Definitions that only private clauses cite.
pub mod Read
pub mod Reading
