-- Definitions that only private clauses use.
pub mod Rows
pub mod Tables
pub mod Indexes
