-- Definitions that only private clauses cite.
pub mod Fine
pub mod Naming
pub mod Reaching
pub mod Steps
pub mod Windows
