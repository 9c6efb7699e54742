-- Definitions that only private clauses use.
pub mod Answers
pub mod Globals
pub mod Held
pub mod Listed
pub mod Parts
pub mod Routines
pub mod Settled
pub mod Slots
pub mod Walk
