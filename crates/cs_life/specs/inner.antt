-- Definitions that only private clauses cite.
pub mod Doing
pub mod Marks
pub mod Roster
pub mod Starting
