-- Definitions that only private clauses cite.
pub mod Crews
pub mod Ends
pub mod Plays
pub mod Recordings
pub mod Rows
pub mod Stands
