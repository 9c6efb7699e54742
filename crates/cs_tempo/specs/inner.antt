-- Definitions that only private clauses cite.
pub mod Clock
pub mod Counted
pub mod Events
pub mod Queue
pub mod Stops
pub mod Sweep
pub mod Turns
